-- The endings of a store's addresses stand beside the regions that the store made, in the order of their ids.
use Rattle.std.proofs.Common.{◌≡◌, ◌∙◌, sym, refl, ap, subst, ℕ, suc, ◌+◌, ◌<◌, List, [], ◌∷◌, ◌++◌, map, length, Option, Some, None, arith}
use Rattle.std.specs.Prelude.{slice_get}
use Rattle.std.specs.List.{cons_option, flat_map}
use Rattle.rs_entry.specs.WellFormed.{WellFormed}
use Rattle.rs_entry.specs.declared.input.Input.{Input}
use Rattle.rs_entry.specs.declared.input.Store.{Store}
use Rattle.rs_entry.specs.declared.outcome.Item.{Item}
use Rattle.rs_store.specs.declared.regions.Made.{Made}
use Rattle.rs_store.specs.Stores.{Applied, ids_of}
use Rattle.rs_part.specs.Whole.{replies_of}
use Rattle.rs_check.specs.declared.rows.Row.{Row}
use Rattle.rs_check.specs.Laws.{check}
use Rattle.rs_check.specs.Plans.{address_in, row_of, rows_in, rows_of}
use Rattle.rs_check.specs.Values.{region_of}
use Rattle.rs_msg.specs.Held.{IsEnding}
use Rattle.rs_msg.specs.declared.ending.Ending.{Ending}
use Rattle.rs_history.specs.Outcomes.{lines_in, region_line, reply_line}
use Rattle.rs_history.proofs.RepliesById.{lines_for}
use Rattle.rs_meta.specs.Addresses.{first_of}
use Rattle.rs_meta.specs.Readings.{AreEndings, items_left, items_of_all, line_of}
use Rattle.rs_meta.proofs.EndingLaws.{items_are, items_shown, line_is, replies_is}
use Rattle.rs_meta.proofs.StoreRows.{count_is, end_of, home_of, row_at}

-- what an ending says of a region that was made
pub record Says (input : Input) (s : Store) (g : Applied) (id : ℕ) (r : Made) (e : Ending) : Type 0 where
  pub line : region_line s id (Some r) ≡ Some (line_of input e)
  pub replies : e.replies ≡ lines_for g.replies id
  pub items : (key : List ℕ) → items_left e key ≡ items_shown g r key

-- what is shown of a region, if it was made
abbrev pub shown_of : Applied → List ℕ → Option Made → List Item
shown_of g key None = []
shown_of g key (Some r) = items_shown g r key

module _ (input : Input) (s : Store) (g : Applied) where
  abbrev pub Beside : ℕ → Option Made → (List Ending → Type 0) → List Ending → Type 0
  Beside id None more es = more es
  Beside id (Some r) more [] = ⊥
  Beside id (Some r) more (e ∷ es) = Says input s g id r e × more es

  -- one ending beside each region of these ids that was made
  abbrev pub Along : List ℕ → List Ending → Type 0
  Along [] [] = Unit {0}
  Along [] (e ∷ es) = ⊥
  Along (id ∷ ids) es = Beside id (g.region id) (Along ids) es

  -- so the lines are theirs
  pub lines_along : (ids : List ℕ) (es : List Ending) → Along ids es → lines_in s g.region ids ≡ map (line_of input) es
  lines_along [] [] h = refl
  lines_along [] (e ∷ es) h = absurd h
  lines_along (id ∷ ids) es h = go (g.region id) es h (lines_along ids)
    where
      go : (o : Option Made) (es : List Ending) → Beside id o (Along ids) es → ((fs : List Ending) → Along ids fs → lines_in s g.region ids ≡ map (line_of input) fs)
          → cons_option (region_line s id o) (lines_in s g.region ids) ≡ map (line_of input) es
      go None es h more = more es h
      go (Some r) [] h more = absurd h
      go (Some r) (e ∷ es) h more = ap (λ o. cons_option o (lines_in s g.region ids)) h.0.line ∙ ap (λ ls. line_of input e ∷ ls) (more es h.1)

  -- and the replies
  pub replies_along : ((x : ℕ) → g.region x ≡ None → replies_of g.replies x ≡ []) → (ids : List ℕ) (es : List Ending) → Along ids es
      → flat_map (lines_for g.replies) ids ≡ flat_map (λ e. e.replies) es
  replies_along silent [] [] h = refl
  replies_along silent [] (e ∷ es) h = absurd h
  replies_along silent (id ∷ ids) es h = go (g.region id) refl es h (replies_along silent ids)
    where
      go : (o : Option Made) → g.region id ≡ o → (es : List Ending) → Beside id o (Along ids) es → ((fs : List Ending) → Along ids fs → flat_map (lines_for g.replies) ids ≡ flat_map (λ e. e.replies) fs)
          → flat_map (lines_for g.replies) (id ∷ ids) ≡ flat_map (λ e. e.replies) es
      go None none es h more = ap (λ ys. map reply_line ys ++ flat_map (lines_for g.replies) ids) (silent id none) ∙ more es h
      go (Some r) made [] h more = absurd h
      go (Some r) made (e ∷ es) h more = ap (λ ls. ls ++ flat_map (lines_for g.replies) ids) (sym h.0.replies) ∙ ap (λ ls. e.replies ++ ls) (more es h.1)

  module _ (key : List ℕ) where
    -- and the items
    pub items_along : (ids : List ℕ) (es : List Ending) → Along ids es → flat_map (λ id. shown_of g key (g.region id)) ids ≡ items_of_all es key
    items_along [] [] h = refl
    items_along [] (e ∷ es) h = absurd h
    items_along (id ∷ ids) es h = go (g.region id) es h (items_along ids)
      where
        go : (o : Option Made) (es : List Ending) → Beside id o (Along ids) es → ((fs : List Ending) → Along ids fs → flat_map (λ id. shown_of g key (g.region id)) ids ≡ items_of_all fs key)
            → shown_of g key o ++ flat_map (λ id. shown_of g key (g.region id)) ids ≡ items_of_all es key
        go None es h more = more es h
        go (Some r) [] h more = absurd h
        go (Some r) (e ∷ es) h more = ap (λ is. is ++ flat_map (λ id. shown_of g key (g.region id)) ids) (sym (h.0.items key)) ∙ ap (λ is. items_left e key ++ is) (more es h.1)

module _ (input : Input) (well : WellFormed input) (lawful : check input ≡ None) (place : ℕ) (s : Store) (there : slice_get input.stores place ≡ Some s) where
  abbrev g : Applied
  g = (end_of input well lawful place s there).g

  -- what the ending of an address says, where the address has the row of this region
  says : (id : ℕ) (r : Made) (e : Ending) → e.plan.now ≡ input → g.region id ≡ Some r → slice_get (rows_of input) e.address ≡ row_of s id (Some r) → Says input s g id r e
  says id r e plan made row =
      let region : region_of input e.address ≡ id = ap (λ o. (address_in o).1) row in
      let h = home_of input well lawful place s there e.address r (ap g.region region ∙ made) (row ∙ ap (λ i. row_of s i (Some r)) (sym region)) in
      let ending : IsEnding input e.address e.state e.replies e.map = subst (λ i. IsEnding i e.address e.state e.replies e.map) plan e.ending in
      record {
        line = ap (λ i. region_line s i (Some r)) (sym region) ∙ line_is input well lawful e.address h e.state e.replies e.map ending;
        replies = replies_is input well lawful e.address h e.state e.replies e.map ending ∙ ap (lines_for g.replies) region;
        items = items_are input well lawful e.address h e.state e.replies e.map ending;
      }

  -- these are the endings of the addresses from this one on, with these rows
  record From (a : ℕ) (rows : List Row) (es : List Ending) : Type 0 where
    pub count : length es ≡ length rows
    pub placed : (k : ℕ) → k < length rows → slice_get (rows_of input) (a + k) ≡ slice_get rows k
    pub plans : (k : ℕ) (e : Ending) → slice_get es k ≡ Some e → e.plan.now ≡ input
    pub addresses : (k : ℕ) (e : Ending) → slice_get es k ≡ Some e → e.address ≡ a + k

  along_from : (ids : List ℕ) (a : ℕ) (es : List Ending) → From a (rows_in s g.region ids) es → Along input s g ids es
  along_from [] a [] f = tt
  along_from [] a (e ∷ es) f = absurd (omega (arith, f.count))
  along_from (id ∷ ids) a es f = go (g.region id) refl es f (along_from ids)
    where
      go : (o : Option Made) → g.region id ≡ o → (es : List Ending) → From a (cons_option (row_of s id o) (rows_in s g.region ids)) es
          → ((b : ℕ) (fs : List Ending) → From b (rows_in s g.region ids) fs → Along input s g ids fs) → Beside input s g id o (Along input s g ids) es
      go None none es f more = more a es f
      go (Some r) made [] f more = absurd (omega (arith, f.count))
      go (Some r) made (e ∷ es) f more =
          let here : e.address ≡ a + 0 = f.addresses 0 e refl in
          let next : (k : ℕ) → a + suc k ≡ suc a + k = λ k. omega arith in (
            says id r e (f.plans 0 e refl) made (ap (slice_get (rows_of input)) here ∙ f.placed 0 (omega arith)),
            more (suc a) es (record {
              count = omega (arith, f.count);
              placed = λ k lt. ap (slice_get (rows_of input)) (sym (next k)) ∙ f.placed (suc k) (omega (arith, lt));
              plans = λ k x there. f.plans (suc k) x there;
              addresses = λ k x there. f.addresses (suc k) x there ∙ next k;
            }),
          )

  pub along : (es : List Ending) → AreEndings input place es → Along input s g (ids_of s) es
  along es are = along_from (ids_of s) (first_of input place) es (record {
    count = are.count ∙ count_is input well lawful place s there;
    placed = λ k lt. row_at input well lawful place s there k lt;
    plans = are.plans;
    addresses = are.addresses;
  })
