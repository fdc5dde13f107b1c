-- What the ending of a region says, by the region at the end of its store's order.
use Rattle.std.proofs.Common.{◌≡◌, ℕ, zero, suc, ◌+◌, ◌-◌, ◌≤◌, Bool, true, false, List, [], ◌∷◌, ◌++◌, map, Option, Some, None, refl, ap, sym, ◌∙◌, arith, subst}
use Rattle.std.specs.Prelude.{if◌then◌else◌, unwrap_or}
use Rattle.std.specs.Option.{is_some}
use Rattle.std.proofs.lemmas.List.{length-drop, map-append}
use Rattle.rs_entry.specs.WellFormed.{WellFormed}
use Rattle.rs_entry.specs.declared.input.Input.{Input}
use Rattle.rs_entry.specs.declared.outcome.Mode.{Mode}
use Rattle.rs_entry.specs.declared.outcome.Mode.TheVariants as mode
use Rattle.rs_entry.specs.declared.outcome.RegionLine.{RegionLine}
use Rattle.rs_entry.specs.declared.outcome.Reply.{Reply}
use Rattle.rs_entry.specs.declared.outcome.ReplyLine.{ReplyLine}
use Rattle.rs_region.specs.Verdicts.{verdict}
use Rattle.rs_region.specs.declared.state.RegionState.{RegionState}
use Rattle.rs_store.specs.declared.regions.Made.{Made}
use Rattle.rs_store.specs.Stores.{Applied, Replied, is_unmerged, own, replied, reply_to}
use Rattle.rs_part.specs.Items.{Items, items_in}
use Rattle.rs_part.specs.Parts.{Part, part_of}
use Rattle.rs_part.specs.Scripts.{IsPart}
use Rattle.rs_part.specs.Whole.{Answers, replies_of}
use Rattle.rs_part.proofs.Parts.{one_part}
use Rattle.rs_msg.specs.Maps.{Writes, items_at}
use Rattle.rs_check.specs.Laws.{check}
use Rattle.rs_check.specs.Plans.{ends_of, own_in, own_of, stop_of}
use Rattle.rs_check.specs.Scripts.{script_of}
use Rattle.rs_check.specs.Values.{entry_at, part_at, region_of, replies_to, reply_after, reply_by, reply_lines}
use Rattle.rs_check.proofs.Addresses.{Home, ends, stops}
use Rattle.rs_check.proofs.PartLaws.{is_part, the_entry, the_part}
use Rattle.rs_msg.specs.Held.{IsEnding, leaves_map, state_in}
use Rattle.rs_msg.specs.Held.{items_in as items_in_part}
use Rattle.rs_history.specs.Outcomes.{left_of, region_line, reply_line}

-- the line with these of its region
abbrev line_with : Mode → ℕ → ℕ → RegionState → RegionLine
line_with m applied left z = record { region = z.region; epoch = z.epoch; range = z.range; mode = m; applied = applied; left = left; peers = z.peers }

-- the items that a region shows at the end
abbrev pub items_shown : Applied → Made → Items
items_shown g r key = if leaves_map r.state.mode then items_in r.state.range g.writes key else []

-- a region that leaves a map isn't merged
pub leaves_unmerged : (m : Mode) → leaves_map m ≡ true → is_unmerged m ≡ true
leaves_unmerged mode.Normal e = refl
leaves_unmerged (mode.Merging target commit) e = refl
leaves_unmerged (mode.Merged target) e = absurd cc
leaves_unmerged mode.Removed e = absurd cc

replied_lines : (region index : ℕ) (ys : List Reply) → reply_lines region index ys ≡ map reply_line (replied region index ys)
replied_lines region index [] = refl
replied_lines region index (y ∷ ys) = ap (λ (zs : List ReplyLine). record { region = region; index = index; reply = y } ∷ zs) (replied_lines region index ys)

module _ (input : Input) (well : WellFormed input) (lawful : check input ≡ None) (a : ℕ) (h : Home input a) where
  abbrev id : ℕ
  id = region_of input a

  -- ---- replies

  replies_are : (n : ℕ) → n + 5 ≤ stop_of input a → (ys : List Replied) → Answers (script_of input) id n ys → replies_to input a n ≡ map reply_line ys
  unfolding replies_to
  replies_are zero le ys answers = ap (map reply_line) (sym answers)
  replies_are (suc n) le ys (before, answers, answer) =
      let five : 5 ≤ n + 5 = omega arith in
      let next : n + 5 + 1 ≤ stop_of input a = omega (arith, le) in
      let part = the_part input well lawful a h (n + 5) answer.part five (omega (arith, le)) answer.is_part in
      let entry = the_entry input well lawful a h (n + 5) answer.entry five (omega (arith, le)) answer.line in
      let after = the_part input well lawful a h (n + 5 + 1) answer.next (omega arith) next answer.is_next in
      let here : reply_by (part_at input a (n + 5)) (entry_at input a (n + 5 + 1)) (part_at input a (n + 5 + 1)) ≡ reply_to (verdict answer.part.state answer.entry) answer.entry.body answer.next.state =
      ap (λ p. reply_by p (entry_at input a (n + 5 + 1)) (part_at input a (n + 5 + 1))) part
      ∙ (ap (λ e. reply_by (Some answer.part) e (part_at input a (n + 5 + 1))) entry ∙ ap (reply_by (Some answer.part) (Some answer.entry)) after) in
      ap (λ zs. zs ++ reply_after input a (n + 5)) (replies_are n (omega (arith, le)) before answers)
      ∙ (ap (λ zs. map reply_line before ++ reply_lines id (n + 5 + 1) zs) here
      ∙ (ap (λ zs. map reply_line before ++ zs) (replied_lines id (n + 5 + 1) (reply_to (verdict answer.part.state answer.entry) answer.entry.body answer.next.state))
      ∙ (sym (map-append reply_line before (replied id (n + 5 + 1) (reply_to (verdict answer.part.state answer.entry) answer.entry.body answer.next.state))) ∙ ap (map reply_line) (sym answer.reply))))

  -- ---- the last part

  unmerged_part : is_unmerged h.r.state.mode ≡ true → IsPart (script_of input) id h.r.applied (part_of h.end.g h.r)
  unmerged_part unmerged = h.end.invariant.sound.parts id h.r h.made unmerged

  module _ (s : RegionState) (lines : List ReplyLine) (kept : Option Writes) (e : IsEnding input a s lines kept) where
    last : (v : Part) × (part_at input a (stop_of input a) ≡ Some v) × (v.state ≡ s)
    last = go (part_at input a (stop_of input a)) refl e.state
      where
        go : (o : Option Part) → part_at input a (stop_of input a) ≡ o → state_in o ≡ Some s → (v : Part) × (part_at input a (stop_of input a) ≡ Some v) × (v.state ≡ s)
        go None p q = absurd cc
        go (Some v) p q = (v, p, cc q)

    last_part : IsPart (script_of input) id h.r.applied last.0
    last_part = subst (λ i. IsPart (script_of input) id i last.0) (stops input a h) (is_part input well lawful a h (stop_of input a) last.0 last.1)

    -- it is the part at the end of the store's order, where the region isn't merged
    last_unmerged : is_unmerged h.r.state.mode ≡ true → last.0 ≡ part_of h.end.g h.r
    last_unmerged unmerged = one_part (script_of input) id h.r.applied last.0 (part_of h.end.g h.r) last_part (unmerged_part unmerged)

    -- epoch, range and peers are those at the end of the order
    same_line : (m : Mode) (applied left : ℕ) → line_with m applied left h.r.state ≡ line_with m applied left s
    same_line m applied left = by_mode h.r.state.mode refl
      where
        unmerged : is_unmerged h.r.state.mode ≡ true → line_with m applied left h.r.state ≡ line_with m applied left s
        unmerged u = ap (λ v. line_with m applied left v.state) (sym (last_unmerged u)) ∙ ap (line_with m applied left) last.2

        by_mode : (x : Mode) → h.r.state.mode ≡ x → line_with m applied left h.r.state ≡ line_with m applied left s
        by_mode mode.Normal x = unmerged (ap is_unmerged x)
        by_mode (mode.Merging target commit) x = unmerged (ap is_unmerged x)
        by_mode mode.Removed x = unmerged (ap is_unmerged x)
        by_mode (mode.Merged target) x =
            let ended = h.end.invariant.settled.ended id h.r target h.made x in
            let same : ended.part ≡ last.0 = one_part (script_of input) id h.r.applied ended.part last.0 ended.is_part last_part in
            ap (line_with m applied left) ended.state ∙ (ap (λ v. line_with m applied left v.state) same ∙ ap (line_with m applied left) last.2)

    left_is : left_of (own h.store id) h.r.applied ≡ own_of input a - (stop_of input a - 5)
    left_is =
        length-drop (h.r.applied - 5) (own h.store id)
        ∙ (ap (λ n. n - (h.r.applied - 5)) (sym (ap own_in h.row)) ∙ ap (λ n. own_of input a - (n - 5)) (sym (stops input a h)))

    -- the region's line
    pub line_is : region_line h.store id (Some h.r) ≡ Some (line_with (ends_of input a) (stop_of input a) (own_of input a - (stop_of input a - 5)) s)
    line_is =
        ap (λ n. Some (record { region = n; epoch = h.r.state.epoch; range = h.r.state.range; mode = h.r.state.mode; applied = h.r.applied; left = left_of (own h.store id) h.r.applied; peers = h.r.state.peers }))
        (sym (h.end.invariant.sound.named id h.r h.made))
        ∙ (ap Some (same_line h.r.state.mode h.r.applied (left_of (own h.store id) h.r.applied))
        ∙ (ap (λ m. Some (line_with m h.r.applied (left_of (own h.store id) h.r.applied) s)) (sym (ends input a h))
        ∙ (ap (λ n. Some (line_with (ends_of input a) n (left_of (own h.store id) h.r.applied) s)) (sym (stops input a h))
        ∙ ap (λ n. Some (line_with (ends_of input a) (stop_of input a) n s)) left_is)))

    -- its replies
    pub replies_is : lines ≡ map reply_line (replies_of h.end.g.replies id)
    replies_is =
        let five : 5 ≤ h.r.applied = h.end.invariant.sound.since id h.r h.made in
        let at : stop_of input a ≡ h.r.applied = stops input a h in
        e.replies
        ∙ replies_are (stop_of input a - 5) (omega arith) (replies_of h.end.g.replies id)
        (subst (λ n. Answers (script_of input) id (n - 5) (replies_of h.end.g.replies id)) (sym at) (h.end.invariant.whole.answered id h.r h.made))

    -- its items
    pub items_are : (key : List ℕ) → items_at (unwrap_or kept []) key ≡ items_shown h.end.g h.r key
    items_are key = by_map (leaves_map h.r.state.mode) refl kept refl
      where
        there : is_some kept ≡ leaves_map h.r.state.mode
        there = e.there ∙ ap leaves_map (ends input a h)

        by_map : (b : Bool) → leaves_map h.r.state.mode ≡ b → (o : Option Writes) → kept ≡ o → items_at (unwrap_or o []) key ≡ (if b then items_in h.r.state.range h.end.g.writes key else [])
        by_map true b None none = absurd (cc (sym (ap is_some none) ∙ (there ∙ b)))
        by_map false b None none = refl
        by_map false b (Some m) some = absurd (cc (sym (ap is_some some) ∙ (there ∙ b)))
        by_map true b (Some m) some =
            let here : Some (last.0.items key) ≡ Some (items_at m key) = ap (λ p. items_in_part p key) (sym last.1) ∙ e.items m some key in
            let one : last.0.items key ≡ items_at m key = cc here in
            sym one ∙ ap (λ v. v.items key) (last_unmerged (leaves_unmerged h.r.state.mode b))
