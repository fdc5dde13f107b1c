-- Regions by id, whose ranges are apart and hold the same keys after each change.
use Rattle.std.proofs.Common.{◌≡◌, ℕ, Bool, true, cond, List, [], ◌∷◌, map, length, Option, Some, None, refl, ap, sym, ◌∙◌, subst, ◌⊎◌, inl, inr}
use Rattle.std.specs.Prelude.{◌==◌, ◌||◌, find}
use Rattle.std.proofs.lemmas.Bool.{both_ways, cases_eq, eq-eqb, eqb-true, ne_eqb, or_cases}
use Rattle.rs_key.specs.Epochs.{after_split}
use Rattle.rs_key.specs.Ranges.{Bounds, first_bad_cut, holds, is_next_to}
use Rattle.rs_key.specs.Ranges.{cut as cut_range}
use Rattle.rs_key.specs.declared.epoch.Epoch.{Epoch}
use Rattle.rs_entry.specs.declared.entry.Side.{Side}
use Rattle.rs_entry.specs.declared.outcome.Mode.TheVariants as mode
use Rattle.rs_region.specs.Laws.{AreApart, IsInside, IsShared, Rises, ranges_of, some_holds}
use Rattle.rs_region.specs.Reshapings.{committed, merged_into, new_region, shares, split_kept, split_new}
use Rattle.rs_region.specs.declared.state.RegionState.{RegionState}
use Rattle.rs_region.proofs.JoinKeys.{join_holds, join_rises}
use Rattle.rs_region.proofs.SplitShares.{split_shares}
use Rattle.rs_store.specs.Stores.{is_unmerged}
use Rattle.rs_part.specs.Counting.{IsAmong}
use Rattle.rs_part.specs.Ranges.{Apart, EachId, StatesApart}
use Rattle.rs_part.proofs.Cutting.{all_normal, all_ranges, find_each, states_apart}
use Rattle.rs_part.proofs.Members.{among_all, among_find}
use Rattle.rs_table.proofs.NeedLists.{or_right}
use Rattle.rs_table.proofs.Tables.{or_else, put_over}

abbrev pub States : Type 0
States = ℕ → Option RegionState

-- a region that isn't merged holds the key
pub record HeldIn (f : States) (key : List ℕ) : Type 0 where
  pub id : ℕ
  pub s : RegionState
  pub here : f id ≡ Some s
  pub unmerged : is_unmerged s.mode ≡ true
  pub has : holds s.range key ≡ true

pub record Sharing (keys : List ℕ → Bool) (f : States) : Type 0 where
  pub rises : (x : ℕ) (s : RegionState) → f x ≡ Some s → is_unmerged s.mode ≡ true → Rises s.range
  pub apart : (x y : ℕ) (s t : RegionState) → (x ≡ y → ⊥) → f x ≡ Some s → f y ≡ Some t → is_unmerged s.mode ≡ true → is_unmerged t.mode ≡ true → Apart s.range t.range
  pub held : (x : ℕ) (s : RegionState) (key : List ℕ) → f x ≡ Some s → is_unmerged s.mode ≡ true → holds s.range key ≡ true → keys key ≡ true
  pub covers : (key : List ℕ) → keys key ≡ true → HeldIn f key

pub sharing_same : (keys : List ℕ → Bool) (f g : States) → ((x : ℕ) → f x ≡ g x) → Sharing keys f → Sharing keys g
sharing_same keys f g same w = record {
  rises = λ x s h u. w.rises x s (same x ∙ h) u;
  apart = λ x y s t ne hs ht us ut. w.apart x y s t ne (same x ∙ hs) (same y ∙ ht) us ut;
  held = λ x s key h u has. w.held x s key (same x ∙ h) u has;
  covers = λ key k. (let c = w.covers key k in record { id = c.id; s = c.s; here = sym (same c.id) ∙ c.here; unmerged = c.unmerged; has = c.has });
}

pub put_cases : (s t : RegionState) (x : ℕ) (o : Option RegionState) → put_over s x o ≡ Some t → ((x ≡ s.region) × (s ≡ t)) ⊎ ((x ≡ s.region → ⊥) × (o ≡ Some t))
put_cases s t x o h = elim (cases_eq x s.region) [
  | inl e ↦ inl (e, cc (sym (ap (λ b. cond b (Some s) o) (eq-eqb x s.region e)) ∙ h))
  | inr ne ↦ inr (ne, sym (ap (λ b. cond b (Some s) o) (ne_eqb x s.region ne)) ∙ h)
]

put_same : (s : RegionState) (x : ℕ) (o : Option RegionState) → x ≡ s.region → put_over s x o ≡ Some s
put_same s x o e = ap (λ b. cond b (Some s) o) (eq-eqb x s.region e)

put_other : (s : RegionState) (x : ℕ) (o : Option RegionState) → (x ≡ s.region → ⊥) → put_over s x o ≡ o
put_other s x o ne = ap (λ b. cond b (Some s) o) (ne_eqb x s.region ne)

-- ---- a range that stays

pub same_range : (keys : List ℕ → Bool) (f : States) (s t : RegionState) → Sharing keys f → f t.region ≡ Some s → is_unmerged s.mode ≡ true → is_unmerged t.mode ≡ true → t.range ≡ s.range
    → Sharing keys (λ x. put_over t x (f x))
same_range keys f s t w there us ut range = record {
  rises = λ x y h u. elim (put_cases t y x (f x) h) [
    | inl p ↦ subst (λ (z : RegionState). Rises z.range) p.1 (subst Rises (sym range) (w.rises t.region s there us))
    | inr p ↦ w.rises x y p.1 u
  ];
  apart = λ x y a b ne ha hb ua ub. elim (put_cases t a x (f x) ha) [
    | inl p ↦ elim (put_cases t b y (f y) hb) [
      | inl q ↦ absurd (ne (p.0 ∙ sym q.0))
      | inr q ↦ (let r = w.apart t.region y s b (λ e. q.0 (sym e)) there q.1 us ub in λ key ka kb. r key (ap (λ z. holds z key) (sym range) ∙ (ap (λ (z : RegionState). holds z.range key) p.1 ∙ ka)) kb)
    ]
    | inr p ↦ elim (put_cases t b y (f y) hb) [
      | inl q ↦ (let r = w.apart x t.region a s p.0 p.1 there ua us in λ key ka kb. r key ka (ap (λ z. holds z key) (sym range) ∙ (ap (λ (z : RegionState). holds z.range key) q.1 ∙ kb)))
      | inr q ↦ w.apart x y a b ne p.1 q.1 ua ub
    ]
  ];
  held = λ x y key h u has. elim (put_cases t y x (f x) h) [
    | inl p ↦ w.held t.region s key there us (ap (λ z. holds z key) (sym range) ∙ (ap (λ (z : RegionState). holds z.range key) p.1 ∙ has))
    | inr p ↦ w.held x y key p.1 u has
  ];
  covers = λ key k. (let c = w.covers key k in elim (cases_eq c.id t.region) [
    | inl e ↦
        (let one : c.s ≡ s = cc (c.here, ap f e, there) in
        record { id = t.region; s = t; here = put_same t t.region (f t.region) refl; unmerged = ut; has = ap (λ z. holds z key) range ∙ (ap (λ (z : RegionState). holds z.range key) (sym one) ∙ c.has) })
    | inr ne ↦ record { id = c.id; s = c.s; here = put_other t c.id (f c.id) ne ∙ c.here; unmerged = c.unmerged; has = c.has }
  ]);
}

-- ---- a merge

module _ (keys : List ℕ → Bool) (f : States) (w : Sharing keys f) (s u : RegionState) (here : f s.region ≡ Some s) (there : f u.region ≡ Some u) (us : is_unmerged s.mode ≡ true) (uu : is_unmerged u.mode ≡ true)
    (ne : u.region ≡ s.region → ⊥) (near : is_next_to s.range u.range ≡ true) where
  abbrev C : RegionState
  C = committed s u

  abbrev M : RegionState
  M = merged_into u s.region

  abbrev pub after_merge : States
  after_merge x = put_over M x (put_over C x (f x))

  both : (key : List ℕ) → holds C.range key ≡ (holds s.range key || holds u.range key)
  both key = join_holds s.range u.range (w.rises s.region s here us) (w.rises u.region u there uu) near key

  -- a region afterwards that isn't merged
  cases : (x : ℕ) (t : RegionState) → after_merge x ≡ Some t → is_unmerged t.mode ≡ true → ((x ≡ s.region) × (C ≡ t)) ⊎ ((x ≡ s.region → ⊥) × (x ≡ u.region → ⊥) × (f x ≡ Some t))
  cases x t h ut = elim (put_cases M t x (put_over C x (f x)) h) [
    | inl p ↦ absurd (both_ways (is_unmerged t.mode) (ap (λ (z : RegionState). is_unmerged z.mode) (sym p.1)) ut)
    | inr p ↦ elim (put_cases C t x (f x) p.1) [ inl q ↦ inl q | inr q ↦ inr (q.0, p.0, q.1) ]
  ]

  apart_joined : (x : ℕ) (t : RegionState) → (x ≡ s.region → ⊥) → (x ≡ u.region → ⊥) → f x ≡ Some t → is_unmerged t.mode ≡ true → Apart C.range t.range
  apart_joined x t nes neu h ut key kc kt = elim (or_cases (holds s.range key) (holds u.range key) (sym (both key) ∙ kc)) [
    | inl e ↦ w.apart s.region x s t (λ q. nes (sym q)) here h us ut key e kt
    | inr e ↦ w.apart u.region x u t (λ q. neu (sym q)) there h uu ut key e kt
  ]

  target_here : after_merge s.region ≡ Some C
  target_here = put_other M s.region (put_over C s.region (f s.region)) (λ q. ne (sym q)) ∙ put_same C s.region (f s.region) refl

  pub merge_shares : Sharing keys after_merge
  merge_shares = record {
    rises = λ x t h ut. elim (cases x t h ut) [
      | inl p ↦ subst (λ (z : RegionState). Rises z.range) p.1 (join_rises s.range u.range (w.rises s.region s here us) (w.rises u.region u there uu) near)
      | inr p ↦ w.rises x t p.2 ut
    ];
    apart = λ x y a b nxy ha hb ua ub. elim (cases x a ha ua) [
      | inl p ↦ elim (cases y b hb ub) [
        | inl q ↦ absurd (nxy (p.0 ∙ sym q.0))
        | inr q ↦ subst (λ (z : RegionState). Apart z.range b.range) p.1 (apart_joined y b q.0 q.1 q.2 ub)
      ]
      | inr p ↦ elim (cases y b hb ub) [
        | inl q ↦ subst (λ (z : RegionState). Apart a.range z.range) q.1 (λ key ka kc. apart_joined x a p.0 p.1 p.2 ua key kc ka)
        | inr q ↦ w.apart x y a b nxy p.2 q.2 ua ub
      ]
    ];
    held = λ x t key h ut has. elim (cases x t h ut) [
      | inl p ↦ elim (or_cases (holds s.range key) (holds u.range key) (sym (both key) ∙ (ap (λ (z : RegionState). holds z.range key) p.1 ∙ has))) [
        | inl e ↦ w.held s.region s key here us e
        | inr e ↦ w.held u.region u key there uu e
      ]
      | inr p ↦ w.held x t key p.2 ut has
    ];
    covers = λ key k. (let c = w.covers key k in elim (cases_eq c.id s.region) [
      | inl e ↦
          (let one : c.s ≡ s = cc (c.here, ap f e, here) in
          record { id = s.region; s = C; here = target_here; unmerged = refl; has = both key ∙ ap (λ b. b || holds u.range key) (ap (λ (z : RegionState). holds z.range key) (sym one) ∙ c.has) })
      | inr nes ↦ elim (cases_eq c.id u.region) [
        | inl e ↦
            (let one : c.s ≡ u = cc (c.here, ap f e, there) in
            record { id = s.region; s = C; here = target_here; unmerged = refl; has = both key ∙ or_right (holds s.range key) (holds u.range key) (ap (λ (z : RegionState). holds z.range key) (sym one) ∙ c.has) })
        | inr neu ↦ record { id = c.id; s = c.s; here = put_other M c.id (put_over C c.id (f c.id)) neu ∙ (put_other C c.id (f c.id) nes ∙ c.here); unmerged = c.unmerged; has = c.has }
      ]
    ]);
  }

-- ---- a split

pub pair_apart : (ss : List RegionState) (s t : RegionState) → StatesApart ss → IsAmong s ss → IsAmong t ss → (s.region ≡ t.region → ⊥) → Apart s.range t.range
pair_apart [] s t all i j ne = absurd i
pair_apart (x ∷ xs) s t all (inl p) (inl q) ne = absurd (ne (ap (λ (z : RegionState). z.region) (p ∙ sym q)))
pair_apart (x ∷ xs) s t all (inl p) (inr j) ne = subst (λ (z : RegionState). Apart z.range t.range) (sym p) (among_all (λ z. Apart x.range z.range) t xs all.0 j)
pair_apart (x ∷ xs) s t all (inr i) (inl q) ne = λ key ks kt. among_all (λ z. Apart x.range z.range) s xs all.0 i key (ap (λ (z : RegionState). holds z.range key) (sym q) ∙ kt) ks
pair_apart (x ∷ xs) s t all (inr i) (inr j) ne = pair_apart xs s t all.1 i j ne

-- one of the new ranges holds the key
held_new : (epoch : Epoch) (peers : List ℕ) (news : List (ℕ × Bounds)) (key : List ℕ) → some_holds (ranges_of news) key ≡ true → (t : RegionState) × IsAmong t (map (new_region epoch peers) news) × (holds t.range key ≡ true)
held_new epoch peers [] key h = absurd cc
held_new epoch peers (z ∷ zs) key h = elim (or_cases (holds z.1 key) (some_holds (ranges_of zs) key) h) [
  | inl e ↦ (new_region epoch peers z, inl refl, e)
  | inr e ↦ (let w = held_new epoch peers zs key e in (w.0, inr w.1, w.2))
]

module _ (keys : List ℕ → Bool) (f : States) (w : Sharing keys f) (s : RegionState) (here : f s.region ≡ Some s) (us : is_unmerged s.mode ≡ true) (side : Side) (ids : List ℕ) (cuts : List (List ℕ))
    (good : first_bad_cut s.range cuts ≡ None) (even : length ids ≡ length cuts) (each : EachId (split_new s side ids cuts)) (fresh : (x : ℕ) (t : RegionState) → find (λ z. z.region == x) (split_new s side ids cuts) ≡ Some t → f x ≡ None) where
  abbrev K : RegionState
  K = split_kept s side cuts

  abbrev N : List RegionState
  N = split_new s side ids cuts

  abbrev news : List (ℕ × Bounds)
  news = shares side ids (cut_range s.range cuts)

  abbrev epoch : Epoch
  epoch = after_split s.epoch (length cuts)

  abbrev found : ℕ → Option RegionState
  found x = find (λ z. z.region == x) N

  abbrev pub after_cut : States
  after_cut x = or_else (found x) (put_over K x (f x))

  shared : IsShared s.range K.range (ranges_of news)
  shared = split_shares side ids s.range cuts (w.rises s.region s here us) good even

  record Part_of (x : ℕ) (t : RegionState) : Type 0 where
    pub among : IsAmong t N
    pub named : t.region ≡ x
    pub there : found x ≡ Some t

  part_of : (x : ℕ) (t : RegionState) → found x ≡ Some t → Part_of x t
  part_of x t h = let p = among_find (λ z. z.region == x) N t h in record { among = p.0; named = eqb-true t.region x p.1; there = h }

  inside_new : (t : RegionState) → IsAmong t N → IsInside t.range s.range
  inside_new t i = among_all (λ z. IsInside z.range s.range) t N (all_ranges (λ r. IsInside r s.range) epoch s.peers news shared.inside) i

  part_cases : (x : ℕ) (t : RegionState) → after_cut x ≡ Some t → Part_of x t ⊎ ((found x ≡ None) × (((x ≡ s.region) × (K ≡ t)) ⊎ ((x ≡ s.region → ⊥) × (f x ≡ Some t))))
  part_cases x t h = go (found x) refl h where
    go : (o : Option RegionState) → found x ≡ o → or_else o (put_over K x (f x)) ≡ Some t → Part_of x t ⊎ ((found x ≡ None) × (((x ≡ s.region) × (K ≡ t)) ⊎ ((x ≡ s.region → ⊥) × (f x ≡ Some t))))
    go None e h = inr (e, put_cases K t x (f x) h)
    go (Some z) e h = (let one : z ≡ t = cc h in inl (part_of x t (e ∙ ap Some one)))

  apart_new_old : (x y : ℕ) (t u : RegionState) → Part_of x t → (y ≡ s.region → ⊥) → f y ≡ Some u → is_unmerged u.mode ≡ true → Apart t.range u.range
  apart_new_old x y t u p ney h uu key kt ku = w.apart s.region y s u (λ q. ney (sym q)) here h us uu key (inside_new t p.among key kt) ku

  apart_kept_new : (x : ℕ) (t : RegionState) → Part_of x t → Apart K.range t.range
  apart_kept_new x t p = among_all (λ z. AreApart K.range z.range) t N (all_ranges (AreApart K.range) epoch s.peers news shared.kept_apart) p.among

  apart_kept_old : (y : ℕ) (u : RegionState) → (y ≡ s.region → ⊥) → f y ≡ Some u → is_unmerged u.mode ≡ true → Apart K.range u.range
  apart_kept_old y u ney h uu key kt ku = w.apart s.region y s u (λ q. ney (sym q)) here h us uu key (shared.kept_inside key kt) ku

  apart_after : (x y : ℕ) (a b : RegionState) → (x ≡ y → ⊥) → after_cut x ≡ Some a → after_cut y ≡ Some b → is_unmerged a.mode ≡ true → is_unmerged b.mode ≡ true → Apart a.range b.range
  apart_after x y a b ne ha hb ua ub = elim (part_cases x a ha) [
    | inl p ↦ elim (part_cases y b hb) [
      | inl q ↦ pair_apart N a b (states_apart epoch s.peers news shared.apart) p.among q.among (λ e. ne (sym p.named ∙ (e ∙ q.named)))
      | inr q ↦ elim q.1 [
        | inl k ↦ subst (λ (z : RegionState). Apart a.range z.range) k.1 (λ key ka kk. apart_kept_new x a p key kk ka)
        | inr o ↦ apart_new_old x y a b p o.0 o.1 ub
      ]
    ]
    | inr p ↦ elim p.1 [
      | inl k ↦ elim (part_cases y b hb) [
        | inl q ↦ subst (λ (z : RegionState). Apart z.range b.range) k.1 (apart_kept_new y b q)
        | inr q ↦ elim q.1 [
          | inl l ↦ absurd (ne (k.0 ∙ sym l.0))
          | inr o ↦ subst (λ (z : RegionState). Apart z.range b.range) k.1 (apart_kept_old y b o.0 o.1 ub)
        ]
      ]
      | inr o ↦ elim (part_cases y b hb) [
        | inl q ↦ (λ key ka kb. apart_new_old y x b a q o.0 o.1 ua key kb ka)
        | inr q ↦ elim q.1 [
          | inl l ↦ subst (λ (z : RegionState). Apart a.range z.range) l.1 (λ key ka kk. apart_kept_old x a o.0 o.1 ua key kk ka)
          | inr v ↦ w.apart x y a b ne o.1 v.1 ua ub
        ]
      ]
    ]
  ]

  none_at : (x : ℕ) (t : RegionState) → f x ≡ Some t → found x ≡ None
  none_at x t h = go (found x) refl where
    go : (o : Option RegionState) → found x ≡ o → found x ≡ None
    go None e = e
    go (Some z) e = absurd (let n = fresh x z e in cc (n, h))

  pub split_shares_keys : Sharing keys after_cut
  split_shares_keys = record {
    rises = λ x t h u. elim (part_cases x t h) [
      | inl p ↦ among_all (λ z. Rises z.range) t N (all_ranges Rises epoch s.peers news shared.rise) p.among
      | inr p ↦ elim p.1 [ inl k ↦ subst (λ (z : RegionState). Rises z.range) k.1 shared.kept_rises | inr o ↦ w.rises x t o.1 u ]
    ];
    apart = apart_after;
    held = λ x t key h u has. elim (part_cases x t h) [
      | inl p ↦ w.held s.region s key here us (inside_new t p.among key has)
      | inr p ↦ elim p.1 [
        | inl k ↦ w.held s.region s key here us (shared.kept_inside key (ap (λ (z : RegionState). holds z.range key) k.1 ∙ has))
        | inr o ↦ w.held x t key o.1 u has
      ]
    ];
    covers = λ key k. (let c = w.covers key k in elim (cases_eq c.id s.region) [
      | inl e ↦
          (let one : c.s ≡ s = cc (c.here, ap f e, here) in
          elim (or_cases (holds K.range key) (some_holds (ranges_of news) key) (sym (shared.none_lost key) ∙ (ap (λ (z : RegionState). holds z.range key) (sym one) ∙ c.has))) [
            | inl kept ↦ record { id = s.region; s = K; here = ap (λ o. or_else o (put_over K s.region (f s.region))) (none_at s.region s here) ∙ put_same K s.region (f s.region) refl; unmerged = refl; has = kept }
            | inr any ↦
                (let t = held_new epoch s.peers news key any in
                record {
                  id = t.0.region;
                  s = t.0;
                  here = ap (λ o. or_else o (put_over K t.0.region (f t.0.region))) (among_all (λ z. found z.region ≡ Some z) t.0 N (find_each N each) t.1);
                  unmerged = ap is_unmerged (among_all (λ z. z.mode ≡ mode.Normal) t.0 N (all_normal epoch s.peers news) t.1);
                  has = t.2;
                })
          ])
      | inr ne ↦ record { id = c.id; s = c.s; here = ap (λ o. or_else o (put_over K c.id (f c.id))) (none_at c.id c.s c.here) ∙ (put_other K c.id (f c.id) ne ∙ c.here); unmerged = c.unmerged; has = c.has }
    ]);
  }
