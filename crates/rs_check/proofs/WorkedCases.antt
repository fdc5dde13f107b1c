-- Worked cases: what the definitions say of small inputs.
use Rattle.std.specs.Prelude.{◌≡◌, ℕ, List, [], ◌∷◌, Option, Some, None, refl}
use Rattle.rs_entry.specs.declared.entry.Op.TheVariants as op
use Rattle.rs_entry.specs.declared.entry.Side.TheVariants as side
use Rattle.rs_entry.specs.declared.entry.Change.TheVariants as change
use Rattle.rs_entry.specs.declared.entry.Body.{Body}
use Rattle.rs_entry.specs.declared.entry.Body.TheVariants as body
use Rattle.rs_entry.specs.declared.entry.CarriedBody.TheVariants as carried
use Rattle.rs_entry.specs.declared.entry.Carried.{Carried}
use Rattle.rs_entry.specs.declared.entry.Entry.{Entry}
use Rattle.rs_entry.specs.declared.input.Boot.{Boot}
use Rattle.rs_entry.specs.declared.input.Log.{Log}
use Rattle.rs_entry.specs.declared.input.Store.{Store}
use Rattle.rs_entry.specs.declared.input.Input.{Input}
use Rattle.rs_entry.specs.declared.law_fault.Statement.TheVariants as said
use Rattle.rs_entry.specs.declared.law_fault.LawFault.TheVariants as laws
use Rattle.rs_entry.specs.declared.outcome.Mode.{Mode}
use Rattle.rs_entry.specs.declared.outcome.Mode.TheVariants as mode
use Rattle.rs_store.specs.declared.regions.Origin.{Origin}
use Rattle.rs_store.specs.declared.regions.Origin.TheVariants as origins
use Rattle.rs_check.specs.declared.plan.Maker.TheVariants as makers
use Rattle.rs_check.specs.Laws.{check, store_law}
use Rattle.rs_check.specs.declared.rows.Row.{Row}
use Rattle.rs_check.specs.Plans.{rows_of, store_rows, maker_of}
use Rattle.rs_check.specs.Lines.{line_at}
use Rattle.rs_check.specs.Scripts.{script_of}
use Rattle.rs_part.specs.Scripts.{Never, Opened, SplitOff}

-- ---- short forms

abbrev none : Option (List ℕ)
none = None

abbrev key : ℕ → Option (List ℕ)
key b = Some (b ∷ [])

abbrev boot : ℕ → Option (List ℕ) → Option (List ℕ) → Boot
boot id start end = record { region = id; range = record { start = start; end = end }; peers = [] }

abbrev entry : ℕ → ℕ → ℕ → Body → Entry
entry index conf_ver version b = record { index = index; epoch = record { conf_ver = conf_ver; version = version }; body = b }

abbrev log : ℕ → List Entry → Log
log id entries = record { region = id; entries = entries }

abbrev commit : ℕ → ℕ → Body
commit source at = body.Commit source at []

abbrev put : ℕ → ℕ → Body
put k v = body.Write (op.Put (k ∷ []) (v ∷ []) ∷ [])

abbrev store : ℕ → List Boot → List Log → Store
store id boots logs = record { id = id; regions = boots; logs = logs }

abbrev one : List Boot → List Log → Input
one boots logs = record { version = 1; stores = store 1 boots logs ∷ [] }

abbrev row : ℕ → ℕ → Origin → ℕ → ℕ → Mode → List ℕ → Row
row store region origin stop own ends reshapings =
    record { store = store; region = region; origin = origin; stop = stop; own = own; ends = ends; reshapings = reshapings }

-- two regions side by side
abbrev halves : List Boot
halves = boot 1 none (key 0x6d) ∷ boot 2 (key 0x6d) none ∷ []

abbrev whole : List Boot
whole = boot 1 none none ∷ []

-- ---- a merge that goes through, with an entry of the source past its end

abbrev merged : Input
merged = one halves (log 1 (entry 6 1 1 (body.Prepare 2) ∷ entry 7 2 2 (put 0x61 0x31) ∷ []) ∷ log 2 (entry 6 1 1 (commit 1 6) ∷ []) ∷ [])

merged_is_lawful : check merged ≡ None
unfolding check store_law
merged_is_lawful = refl

merged_rows : rows_of merged ≡ row 1 1 origins.Boot 6 2 (mode.Merged 2) (6 ∷ []) ∷ row 1 2 origins.Boot 6 1 mode.Normal (6 ∷ []) ∷ []
unfolding rows_of store_rows
merged_rows = refl

merged_entry : line_at merged (1, 1) 6 ≡ Some (entry 6 1 1 (body.Prepare 2))
merged_entry = refl

-- ---- a split into three new regions

abbrev split : Input
split = one whole (log 1 (entry 6 1 1 (body.Split side.Right (2 ∷ 3 ∷ 4 ∷ []) ((0x67 ∷ []) ∷ (0x6d ∷ []) ∷ (0x74 ∷ []) ∷ [])) ∷ entry 7 1 1 (put 0x7a 0x31) ∷ []) ∷ [])

split_maker : maker_of split 1 ≡ makers.Split 0 6
unfolding rows_of store_rows
split_maker = refl

split_rows : rows_of split ≡ row 1 1 origins.Boot 7 2 mode.Normal (6 ∷ []) ∷ row 1 2 (origins.Split 1 6) 5 0 mode.Normal [] ∷ row 1 3 (origins.Split 1 6) 5 0 mode.Normal [] ∷ row 1 4 (origins.Split 1 6) 5 0 mode.Normal [] ∷ []
unfolding rows_of store_rows
split_rows = refl

-- ---- the eight faults

-- two regions that wait for each other
waits : check (one halves (log 1 (entry 6 1 1 (commit 2 7) ∷ entry 7 1 1 (body.Prepare 2) ∷ []) ∷ log 2 (entry 6 1 1 (commit 1 7) ∷ entry 7 1 1 (body.Prepare 1) ∷ []) ∷ [])) ≡ Some (laws.Waits 1 1 6 2 7)
unfolding check store_law
waits = refl

-- the source rolled its merge back
not_prepared : check (one halves (log 1 (entry 6 1 1 (body.Prepare 2) ∷ entry 7 2 2 (body.Rollback 6) ∷ []) ∷ log 2 (entry 6 1 1 (commit 1 6) ∷ []) ∷ [])) ≡ Some (laws.NotPrepared 1 2 6 1 6)
unfolding check store_law
not_prepared = refl

-- two stores write differently
differ : check (record { version = 1; stores = store 1 whole (log 1 (entry 6 1 1 (put 0x61 0x31) ∷ []) ∷ []) ∷ store 2 whole (log 1 (entry 6 1 1 (put 0x61 0x32) ∷ []) ∷ []) ∷ [] })
    ≡ Some (laws.Differ 1 2 1 6 (said.Entry (entry 6 1 1 (put 0x61 0x31))) (said.Entry (entry 6 1 1 (put 0x61 0x32))))
unfolding check store_law
differ = refl

overlap : check (one (boot 1 none (key 0x6d) ∷ boot 2 (key 0x6a) none ∷ []) []) ≡ Some (laws.Overlap (boot 1 none (key 0x6d)) (boot 2 (key 0x6a) none))
unfolding check store_law
overlap = refl

-- bounds overlap, and no key is shared: no key is below the byte 00
no_overlap : check (one (boot 1 none (key 0) ∷ boot 2 none none ∷ []) []) ≡ None
unfolding check store_law
no_overlap = refl

reused : check (one whole (log 1 (entry 6 1 1 (body.Split side.Right (1 ∷ []) ((0x6d ∷ []) ∷ [])) ∷ []) ∷ [])) ≡ Some (laws.Reused 1 1 6 1)
unfolding check store_law
reused = refl

not_next : check (one (boot 1 none (key 0x67) ∷ boot 2 (key 0x67) (key 0x6d) ∷ boot 3 (key 0x6d) none ∷ []) (log 1 (entry 6 1 1 (body.Prepare 3) ∷ []) ∷ log 3 (entry 6 1 1 (commit 1 6) ∷ []) ∷ []))
    ≡ Some (laws.NotNext 1 3 6 1 6 (record { start = key 0x6d; end = none }) (record { start = none; end = key 0x67 }))
unfolding check store_law
not_next = refl

bad_rollback : check (one whole (log 1 (entry 6 1 1 (body.Rollback 5) ∷ []) ∷ [])) ≡ Some (laws.BadRollback 1 1 6 5 mode.Normal)
unfolding check store_law
bad_rollback = refl

unborn : check (one whole (log 7 (entry 6 1 1 body.Empty ∷ []) ∷ [])) ≡ Some (laws.Unborn 1 7)
unfolding check store_law
unborn = refl

-- ---- changes of peers

abbrev with_peers : ℕ → Option (List ℕ) → Option (List ℕ) → Boot
with_peers id start end = record { region = id; range = record { start = start; end = end }; peers = 1 ∷ 2 ∷ [] }

abbrev changed : List Entry
changed = entry 6 1 1 (put 0x61 0x31) ∷ entry 7 1 1 (body.Conf (change.Add 3)) ∷ entry 8 2 1 (body.Conf (change.Remove 2)) ∷ entry 9 2 1 (put 0x62 0x32) ∷ []

-- the second store takes out its own peer
abbrev removal : Input
removal = record { version = 2; stores = store 1 (with_peers 1 none none ∷ []) (log 1 changed ∷ []) ∷ store 2 (with_peers 1 none none ∷ []) (log 1 changed ∷ []) ∷ [] }

removal_is_lawful : check removal ≡ None
unfolding check store_law
removal_is_lawful = refl

removal_rows : rows_of removal ≡ row 1 1 origins.Boot 9 4 mode.Normal (7 ∷ 8 ∷ []) ∷ row 2 1 origins.Boot 8 4 mode.Removed (7 ∷ 8 ∷ []) ∷ []
unfolding rows_of store_rows
removal_rows = refl

-- a source that was removed before its prepare
removed_source : check (record {
  version = 2;
  stores = store 1 (with_peers 1 none (key 0x6d) ∷ with_peers 2 (key 0x6d) none ∷ [])
      (log 1 (entry 6 1 1 (body.Conf (change.Remove 1)) ∷ entry 7 2 1 (body.Prepare 2) ∷ []) ∷ log 2 (entry 6 1 1 (commit 1 7) ∷ []) ∷ []) ∷ [];
})
    ≡ Some (laws.Waits 1 2 6 1 7)
unfolding check store_law
removed_source = refl

-- ---- a store that lags takes what a commit carries

abbrev tail : List Carried
tail = record { index = 6; epoch = record { conf_ver = 1; version = 1 }; body = carried.Prepare 2 } ∷ []

abbrev lagging : Input
lagging = one halves (log 2 (entry 6 1 1 (body.Commit 1 6 tail) ∷ []) ∷ [])

lagging_is_lawful : check lagging ≡ None
unfolding check store_law
lagging_is_lawful = refl

lagging_rows : rows_of lagging ≡ row 1 1 origins.Boot 6 0 (mode.Merged 2) (6 ∷ []) ∷ row 1 2 origins.Boot 6 1 mode.Normal (6 ∷ []) ∷ []
unfolding rows_of store_rows
lagging_rows = refl

lagging_entry : line_at lagging (1, 1) 6 ≡ Some (entry 6 1 1 (body.Prepare 2))
lagging_entry = refl

-- a commit that states another tail than the other store's
other_tail : check (record { version = 1; stores = store 1 halves (log 2 (entry 6 1 1 (body.Commit 1 6 tail) ∷ []) ∷ []) ∷ store 2 halves (log 2 (entry 6 1 1 (commit 1 6) ∷ []) ∷ []) ∷ [] })
    ≡ Some (laws.Differ 1 2 2 6 (said.Entry (entry 6 1 1 (body.Commit 1 6 tail))) (said.Entry (entry 6 1 1 (commit 1 6))))
unfolding check store_law
other_tail = refl

-- ---- the script of two stores, of which the second has no log of the new region

abbrev apart : Entry
apart = entry 6 1 1 (body.Split side.Right (2 ∷ []) ((0x6d ∷ []) ∷ []))

abbrev together : Entry
together = entry 7 1 2 (body.Commit 2 7
    (record { index = 6; epoch = record { conf_ver = 1; version = 2 }; body = carried.Write (op.Put (0x61 ∷ []) (0x31 ∷ []) ∷ []) }
    ∷ record { index = 7; epoch = record { conf_ver = 1; version = 2 }; body = carried.Prepare 1 } ∷ []))

abbrev rejoined : Input
rejoined = record {
  version = 1;
  stores = store 1 whole (log 1 (apart ∷ together ∷ []) ∷ log 2 (entry 6 1 2 (put 0x61 0x31) ∷ entry 7 1 2 (body.Prepare 1) ∷ entry 8 2 3 body.Empty ∷ []) ∷ [])
      ∷ store 2 whole (log 1 (apart ∷ together ∷ []) ∷ []) ∷ [];
}

rejoined_is_lawful : check rejoined ≡ None
unfolding check store_law
rejoined_is_lawful = refl

rejoined_rows : rows_of rejoined
    ≡ row 1 1 origins.Boot 7 2 mode.Normal (6 ∷ 7 ∷ []) ∷ row 1 2 (origins.Split 1 6) 7 3 (mode.Merged 1) (7 ∷ [])
    ∷ row 2 1 origins.Boot 7 2 mode.Normal (6 ∷ 7 ∷ []) ∷ row 2 2 (origins.Split 1 6) 7 0 (mode.Merged 1) (7 ∷ []) ∷ []
unfolding rows_of store_rows
rejoined_rows = refl

-- the index 0 is of bootstrap regions alone
rejoined_region : (script_of rejoined).line 1 0 ≡ None
rejoined_region = refl

rejoined_split : (script_of rejoined).line 1 6 ≡ Some apart
rejoined_split = refl

rejoined_commit : (script_of rejoined).line 1 7 ≡ Some together
rejoined_commit = refl

-- stated as carried first
rejoined_write : (script_of rejoined).line 2 6 ≡ Some (entry 6 1 2 (put 0x61 0x31))
rejoined_write = refl

rejoined_prepare : (script_of rejoined).line 2 7 ≡ Some (entry 7 1 2 (body.Prepare 1))
rejoined_prepare = refl

-- the first store alone has it
rejoined_past : (script_of rejoined).line 2 8 ≡ Some (entry 8 2 3 body.Empty)
rejoined_past = refl

rejoined_end : (script_of rejoined).line 2 9 ≡ None
rejoined_end = refl

rejoined_parent : (script_of rejoined).birth 1 ≡ Opened (record { start = none; end = none }) []
rejoined_parent = refl

rejoined_child : (script_of rejoined).birth 2 ≡ SplitOff 1 6
rejoined_child = refl

rejoined_none : (script_of rejoined).birth 3 ≡ Never
rejoined_none = refl
