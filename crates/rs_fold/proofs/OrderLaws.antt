-- The orders of each store of a lawful input.
use Rattle.std.proofs.Common.{◌≡◌, [], None}
use Rattle.std.proofs.lemmas.List.Elements.{recursion_from_All}
use Rattle.rs_entry.specs.WellFormed.{WellFormed}
use Rattle.rs_entry.specs.declared.input.Input.{Input}
use Rattle.rs_entry.specs.declared.input.Store.{Store}
use Rattle.rs_part.specs.Counting.{IsAmong}
use Rattle.rs_part.proofs.Canonical.{last_done, none_least}
use Rattle.rs_part.proofs.Covers.{covered}
use Rattle.rs_part.proofs.Members.{among_all}
use Rattle.rs_check.specs.Laws.{boots, check, differ_fault, differ_law, first_overlap, overlap_fault, overlap_law, reused_law}
use Rattle.rs_check.specs.Statements.{first_differ, stated}
use Rattle.rs_check.specs.Scripts.{script_of}
use Rattle.rs_check.proofs.Beginning.{begins_of}
use Rattle.rs_check.proofs.Finding.{map_none}
use Rattle.rs_check.proofs.LawfulScripts.{begins_lawful, tells_lawful}
use Rattle.rs_check.proofs.Splitting.{tells_of}
use Rattle.rs_fold.specs.Ends.{IsLawful}
use Rattle.rs_fold.specs.Laws.{OrderLaws, Rests}
use Rattle.rs_fold.proofs.AnyOrder.{lawful_last, ordered_same, ordered_whole, some_order}
use Rattle.rs_fold.proofs.Lawful.{lawful_stores}
use Rattle.rs_fold.proofs.WholeLogs.{normal_applied}

-- the end of a canonical order, where no statement breaks a law
pub rests : (input : Input) → WellFormed input → differ_law input ≡ None → overlap_law input ≡ None → reused_law input ≡ None
    → (store : Store) → IsAmong store input.stores → Rests store
rests input well differ overlap reused store i end e =
    let same = map_none differ_fault (first_differ [] (stated input)) differ in
    let tells = tells_of input well same reused store i in
    let begins = begins_of input well same (map_none overlap_fault (first_overlap (boots input)) overlap) store i in
    none_least store end (last_done (script_of input) store tells begins end e)

pub order_laws : (input : Input) → WellFormed input → check input ≡ None → (store : Store) → IsAmong store input.stores → OrderLaws store
order_laws input well lawful store i =
    let tells = tells_lawful input well lawful store i in
    let begins = begins_lawful input well lawful store i in
    let ends = among_all IsLawful store input.stores (recursion_from_All IsLawful input.stores (lawful_stores input lawful)) i in
    record {
      same = ordered_same (script_of input) store tells begins ends;
      whole = ordered_whole (script_of input) store tells begins ends;
      some = some_order (script_of input) store tells begins ends;
      rests = λ end e. none_least store end (last_done (script_of input) store tells begins end e);
      held = λ order reached e key. (covered (script_of input) store tells begins order reached e key).0;
      applied = λ line i normal.
          let w = lawful_last store ends in
          normal_applied store w.0 w.1 (last_done (script_of input) store tells begins w.0 w.1) ends line i normal;
      alone = λ order reached e key. (covered (script_of input) store tells begins order reached e key).1;
    }
