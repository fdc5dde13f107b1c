-- The places that commits of a store's logs await.
use Rattle.std.specs.Prelude.{List, [], ◌∷◌}
use Rattle.rs_entry.specs.declared.entry.Body.{Body}
use Rattle.rs_entry.specs.declared.entry.Body.TheVariants as body
use Rattle.rs_entry.specs.declared.entry.Entry.{Entry}
use Rattle.rs_entry.specs.declared.input.Log.{Log}
use Rattle.rs_store.specs.Places.{Places, with_place}

-- the places with that of the body's commit, if it is one
abbrev pub await_body : Places → Body → Places
await_body f (body.Commit source commit carried) = with_place f source commit 0
await_body f b = f

-- the places with those of the entries' commits
abbrev pub await_entries : Places → List Entry → Places
await_entries f [] = f
await_entries f (e ∷ es) = await_entries (await_body f e.body) es

-- the places with those of all logs' commits
abbrev pub await_logs : Places → List Log → Places
await_logs f [] = f
await_logs f (log ∷ logs) = await_logs (await_entries f log.entries) logs
