use Rattle.std.proofs.Common.{◌≡◌, All, length}
use Rattle.rs_view.specs.Publishing.{IsNewView, pending, published, published_store}
use Rattle.rs_view.proofs.opening.views_of.Given as goal

abbrev pub invariant-loop-k : goal.invariant-loop-k
invariant-loop-k l =
    (pending l.publisher ≡ pending l.fn.publisher) × (published l.publisher ≡ published l.fn.publisher) × (published_store l.publisher ≡ published_store l.fn.publisher)
    × (length l.views ≡ l._k) × All (IsNewView (published_store l.fn.publisher).0 (published_store l.fn.publisher).1 (published l.fn.publisher)) l.views
