use Rattle.std.proofs.Common.{◌≡◌, ℕ, ◌<◌, ◌≤◌, ◌∙◌, List, sym, subst, arith, length, get_or}
use Rattle.rs_store.proofs.Rising.{get_or_any, inserted_same, inserted_at, inserted_end}
use Rattle.rs_store.proofs.ids.insert_id.Goals as goal

pub returns-then-place-len : goal.returns-then-place-len
returns-then-place-len c =
    let below = subst (λ (xs : List ℕ). (k : ℕ) → k < c.place_of-place.result → get_or xs k 0 < c.args.id) c.as_slice.ensures.value c.place_of-place.ensures.below in
    let all : c.place_of-place.result ≡ length c.args.ids.now.items = omega (arith, c.len.ensures, c.if-place-len.true) in
    c.in_ok-push.ensures.items
    ∙ sym (inserted_end c.args.ids.now.items c.args.id (λ k h. below k (omega arith)))

pub returns-then-index-id : goal.returns-then-index-id
returns-then-index-id c =
    let below = subst (λ (xs : List ℕ). (k : ℕ) → k < c.place_of-place.result → get_or xs k 0 < c.args.id) c.as_slice.ensures.value c.place_of-place.ensures.below in
    let within : c.place_of-place.result ≤ length c.args.ids.now.items = subst (λ (xs : List ℕ). c.place_of-place.result ≤ length xs) c.as_slice.ensures.value c.place_of-place.ensures.within in
    let lt : c.place_of-place.result < length c.args.ids.now.items = omega (arith, c.len.ensures, c.if-place-len.false) in
    let here : get_or c.args.ids.now.items c.place_of-place.result 0 ≡ c.args.id =
    get_or_any c.args.ids.now.items c.place_of-place.result 0 c.index.result.now lt ∙ (sym c.index.ensures ∙ c.if-index-id.true) in
    sym (inserted_same c.args.ids.now.items c.place_of-place.result c.args.id lt below here)

pub returns : goal.returns
returns c =
    let below = subst (λ (xs : List ℕ). (k : ℕ) → k < c.place_of-place.result → get_or xs k 0 < c.args.id) c.as_slice.ensures.value c.place_of-place.ensures.below in
    let within : c.place_of-place.result ≤ length c.args.ids.now.items = subst (λ (xs : List ℕ). c.place_of-place.result ≤ length xs) c.as_slice.ensures.value c.place_of-place.ensures.within in
    let lt : c.place_of-place.result < length c.args.ids.now.items = omega (arith, c.len.ensures, c.if-place-len.false) in
    let from : c.args.id ≤ get_or c.args.ids.now.items c.place_of-place.result 0 =
    subst (λ (xs : List ℕ). c.place_of-place.result < length xs → c.args.id ≤ get_or xs c.place_of-place.result 0) c.as_slice.ensures.value c.place_of-place.ensures.from lt in
    let here : c.index.result.now ≡ get_or c.args.ids.now.items c.place_of-place.result 0 = c.index.ensures ∙ get_or_any c.args.ids.now.items c.place_of-place.result c.index.result.now 0 lt in
    let above : c.args.id < get_or c.args.ids.now.items c.place_of-place.result 0 = omega (arith, c.if-index-id.false) in
    c.in_ok-insert.ensures.items
    ∙ sym (inserted_at c.args.ids.now.items c.place_of-place.result c.args.id lt below above)
