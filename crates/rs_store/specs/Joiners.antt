-- The regions that may stand before a merge at all.
use Rattle.std.specs.Prelude.{ℕ, Bool, true, false, List, filter}
use Rattle.std.specs.List.{list_any}
use Rattle.rs_entry.specs.declared.entry.Body.{Body}
use Rattle.rs_entry.specs.declared.entry.Body.TheVariants as body
use Rattle.rs_entry.specs.declared.entry.Entry.{Entry}
use Rattle.rs_entry.specs.declared.input.Log.{Log}
use Rattle.rs_entry.specs.declared.input.Store.{Store}
use Rattle.rs_store.specs.Stores.{own, ids_of}

-- the body is the commit of a merge
abbrev pub is_commit : Body → Bool
is_commit (body.Commit source commit carried) = true
is_commit b = false

-- the entry is the commit of a merge
abbrev pub commits : Entry → Bool
commits e = is_commit e.body

-- the region's own log has a commit
abbrev pub has_commit : Store → ℕ → Bool
has_commit store id = list_any commits (own store id)

-- the log has a commit
abbrev pub log_commits : Log → Bool
log_commits log = list_any commits log.entries

-- one of the store's logs has a commit
abbrev pub any_commit : Store → Bool
any_commit store = list_any log_commits store.logs

-- the regions whose own log has a commit, of those that the store may have
abbrev pub joiners_of : Store → List ℕ
joiners_of store = filter (has_commit store) (ids_of store)
