-- A queue is known by its web and its allocator.
use Rattle.std.proofs.Common.{◌≡◌, ℕ, sym, ap₂}
use Rattle.std.specs.declared.alloc.Global.{Global}
use Rattle.atomic_blocks.specs.Laid.{WebId}
use Rattle.crossbeam_queue.specs.SegTies.{SegId}
use Rattle.rs_router.specs.Passes.{id_with}

pub same_id : (q : SegId Global) (b : ℕ) (web : WebId) (heap : Global) → web ≡ q.web → heap ≡ q.heap → id_with q b ≡ id_with (record { web = web; heap = heap }) b
same_id q b web heap same_web same_heap = sym (ap₂ (λ (w : WebId) (h : Global). id_with (record { web = w; heap = h }) b) same_web same_heap)
