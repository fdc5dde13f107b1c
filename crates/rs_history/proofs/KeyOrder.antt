-- A stable sort by key keeps the writes of each key in their order.
use Rattle.std.proofs.Common.{◌≡◌, ◌∙◌, sym, refl, ℕ, List, subst}
use Rattle.std.specs.Prelude.{not, ◌&&◌, None}
use Rattle.std.specs.List.{filter}
use Rattle.std.specs.List.Sorted.{ties, IsStableBy}
use Rattle.std.specs.Cmp.{IsTotalOrder, IsStrictWeakOrder}
use Rattle.std.specs.Cmp.Lexicographic.{slice_cmp, texts_ties}
use Rattle.std.specs.Ordering.{nat_cmp, is_lt, is_eq, ordering_reverse}
use Rattle.std.specs.declared.cmp.Ordering.{Ordering}
use Rattle.std.specs.declared.cmp.Ordering.TheVariants.{Less, Equal, Greater}
use Rattle.std.proofs.lemmas.Cmp.{nat_list_cmp_total}
use Rattle.std.proofs.lemmas.List.Elements.{filter_agree}
use Rattle.std.proofs.lemmas.List.Sorted.{ranks_by}
use Rattle.rs_store.specs.Stores.{Wrote}
use Rattle.rs_part.specs.Items.{of_key}
use Rattle.rs_history.specs.Writes.{key_below}

-- neither way less, from the answer one way
tied_by : (s : Ordering) → (not (is_lt (ordering_reverse s)) && not (is_lt s)) ≡ is_eq (ordering_reverse s)
tied_by Less = refl
tied_by Equal = refl
tied_by Greater = refl

tied : (r s : Ordering) → r ≡ ordering_reverse s → (not (is_lt r) && not (is_lt s)) ≡ is_eq r
tied r s h = subst (λ q. (not (is_lt q) && not (is_lt s)) ≡ is_eq q) (sym h) (tied_by s)

-- some write of this key
keyed : List ℕ → Wrote
keyed k = record { region = 0; index = 0; key = k; value = None }

ties_of_key : (k : List ℕ) (w : Wrote) → of_key k w ≡ ties key_below (keyed k) w
unfolding keyed
ties_of_key k w =
    texts_ties k w.key ∙ sym (tied (slice_cmp nat_cmp k w.key) (slice_cmp nat_cmp w.key k) (IsTotalOrder.antisymm nat_list_cmp_total k w.key))

pub key_below_orders : IsStrictWeakOrder key_below
key_below_orders = ranks_by nat_list_cmp_total (λ w. w.key)

pub same_history : (xs ys : List Wrote) → IsStableBy key_below xs ys → (k : List ℕ) → filter (of_key k) ys ≡ filter (of_key k) xs
same_history xs ys stable k =
    filter_agree _ _ (ties_of_key k) ys ∙ stable (keyed k) ∙ sym (filter_agree _ _ (ties_of_key k) xs)
