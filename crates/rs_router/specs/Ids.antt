-- A queue scheduler's Id is its queue and its number of addresses. Two such Ids are equal in one way.
use Rattle.std.specs.Prelude.{◌≡◌, ℕ}
use Rattle.std.specs.Coded.{Coded-set, coded×, coded_ℕ}
use Rattle.std.specs.declared.alloc.Global.{Global}
use Rattle.std.specs.contracts.alloc.Global as heap
use Rattle.crossbeam_queue.specs.SegTies.{SegId, seg_id_coded}

-- ids are equal in one way
abbrev pub one_id : (x y : SegId Global × ℕ) → IsProp (x ≡ y)
one_id x y = Coded-set (coded× (seg_id_coded heap.the_row.coded) coded_ℕ) x y
