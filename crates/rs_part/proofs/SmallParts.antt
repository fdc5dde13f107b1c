-- The numbers of a store's regions stay small.
use Rattle.std.proofs.Common.{◌≡◌, ℕ, zero, suc, ◌+◌, ◌*◌, ◌≤◌, List, Option, Some, None, refl, ap, sym, ◌∙◌, subst, arith}
use Rattle.rs_entry.specs.declared.input.Store.{Store}
use Rattle.rs_store.specs.Runs.{IsFormedStore, IsWithin, bare, forget}
use Rattle.rs_store.specs.Stores.{Applied, Broke, Replied, Stepped, Went, Wrote, advance, after, entries_in, first_some, last, opening, then_advance}
use Rattle.rs_store.proofs.Near.{Leads, advance_leads, opening_near}
use Rattle.rs_store.proofs.WalkLaws.{advance_onto, onto}
use Rattle.rs_part.specs.Parts.{Part, at, first_part, part_when}
use Rattle.rs_part.proofs.Moments.{part_now_cases}

-- an epoch's numbers are at most b
pub record IsSmall (b : ℕ) (v : Part) : Type 0 where
  pub version : v.state.epoch.version ≤ b
  pub conf_ver : v.state.epoch.conf_ver ≤ b

larger : (b c : ℕ) (v : Part) → b ≤ c → IsSmall b v → IsSmall c v
larger b c v le s = record { version = omega (arith, s.version); conf_ver = omega (arith, s.conf_ver) }

onto_same : (ws : List Wrote) (rs : List Replied) (s : Stepped) → forget (onto ws rs s) ≡ forget s
onto_same ws rs (Went g) = refl
onto_same ws rs (Broke fault) = refl

module _ (store : Store) (formed : IsFormedStore store) where
  then_leads : (b : ℕ) → 5 ≤ b → (s : Stepped) → Leads b (forget s) → Leads (b + 64) (forget (then_advance store s))
  then_leads b five (Broke fault) within f h = absurd cc
  then_leads b five (Went g) within f h =
      advance_leads b five store formed g.region (within g.region refl) f
      (sym (ap forget (advance_onto store g) ∙ onto_same g.writes g.replies (advance store (bare g.region))) ∙ h)

  after_leads : (n : ℕ) → Leads (5 + 64 * n) (forget (after store n))
  after_leads zero = λ f h. (let one : (opening store).region ≡ f = cc in subst (IsWithin 5) one (opening_near store))
  after_leads (suc n) =
      let up : (5 + 64 * n) + 64 ≡ 5 + 64 * suc n = omega arith in
      subst (λ b. Leads b (forget (after store (suc n)))) up (then_leads (5 + 64 * n) (omega arith) (after store n) (after_leads n))

  -- at the end of the canonical order
  pub last_within : (h : Applied) → last store ≡ Went h → IsWithin (5 + 64 * entries_in store) h.region
  last_within h e = after_leads (entries_in store) h.region (ap forget e)

  when_small : (b id index : ℕ) (s : Stepped) (v : Part) → Leads b (forget s) → part_when id index s ≡ Some v → IsSmall b v
  when_small b id index (Broke fault) v within h = absurd cc
  when_small b id index (Went g) v within h =
      let w = part_now_cases index g (g.region id) v h in
      let near = within g.region refl id w.0 w.1 in
      subst (IsSmall b) w.3 (record { version = near.version; conf_ver = near.conf_ver })

  first_small : (id index n b : ℕ) (s : Stepped) (v : Part) → 5 ≤ b → Leads b (forget s) → first_part store id index n s ≡ Some v → IsSmall (b + 64 * n) v
  first_small id index zero b s v five within h = larger b (b + 64 * 0) v (omega arith) (when_small b id index s v within h)
  first_small id index (suc n) b s v five within h =
      go (part_when id index s) refl h (first_small id index n (b + 64) (then_advance store s) v (omega arith) (then_leads b five s within))
    where
      go : (o : Option Part) → part_when id index s ≡ o → first_some o (first_part store id index n (then_advance store s)) ≡ Some v
          → (first_part store id index n (then_advance store s) ≡ Some v → IsSmall ((b + 64) + 64 * n) v) → IsSmall (b + 64 * suc n) v
      go None f k rest = larger ((b + 64) + 64 * n) (b + 64 * suc n) v (omega arith) (rest k)
      go (Some x) f k rest = larger b (b + 64 * suc n) v (omega arith) (when_small b id index s v within (f ∙ k))

  -- and in the part at an index
  pub at_small : (id index : ℕ) (v : Part) → at store id index ≡ Some v → IsSmall (5 + 64 * entries_in store) v
  unfolding at
  at_small id index v h = first_small id index (entries_in store) 5 (Went (opening store)) v (omega arith) (after_leads 0) h
