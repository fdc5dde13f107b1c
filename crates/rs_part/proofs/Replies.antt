-- A region's replies are a function of the entries.
use Rattle.std.proofs.Common.{◌≡◌, ℕ, zero, suc, ◌+◌, cond, List, [], ◌∷◌, ◌++◌, refl, ap, sym, ◌∙◌}
use Rattle.std.proofs.lemmas.Bool.{eq-eqb, ne_eqb}
use Rattle.rs_entry.specs.declared.entry.Body.{Body}
use Rattle.rs_entry.specs.declared.outcome.Mode.{Mode}
use Rattle.rs_entry.specs.declared.outcome.Mode.TheVariants as mode
use Rattle.rs_entry.specs.declared.outcome.Reply.{Reply}
use Rattle.rs_entry.specs.declared.outcome.Reply.TheVariants as reply
use Rattle.rs_region.specs.Verdicts.{verdict}
use Rattle.rs_region.specs.declared.state.RegionState.{RegionState}
use Rattle.rs_region.specs.declared.verdict.Verdict.{Verdict}
use Rattle.rs_region.specs.declared.verdict.Verdict.TheVariants as verdicts
use Rattle.rs_store.specs.Stores.{Replied, replied, reply_to, target_in}
use Rattle.rs_part.specs.Parts.{mode_before, unmarked}
use Rattle.rs_part.specs.Scripts.{Script}
use Rattle.rs_part.specs.Whole.{Answers, replies_of}
use Rattle.rs_part.proofs.Parts.{one_part}

-- the script says all replies to a region's first entries
pub answers_one : (script : Script) (id n : ℕ) (xs ys : List Replied) → Answers script id n xs → Answers script id n ys → xs ≡ ys
answers_one script id zero xs ys a b = a ∙ sym b
answers_one script id (suc n) xs ys a b =
    let before : a.0 ≡ b.0 = answers_one script id n a.0 b.0 a.1 b.1 in
    let part : a.2.part ≡ b.2.part = one_part script id (n + 5) a.2.part b.2.part a.2.is_part b.2.is_part in
    let entry : a.2.entry ≡ b.2.entry = cc (a.2.line, b.2.line) in
    let next : a.2.next ≡ b.2.next = one_part script id ((n + 5) + 1) a.2.next b.2.next a.2.is_next b.2.is_next in
    a.2.reply
    ∙ (ap (λ z. z ++ replied id ((n + 5) + 1) (reply_to (verdict a.2.part.state a.2.entry) a.2.entry.body a.2.next.state)) before
    ∙ (ap (λ z. b.0 ++ replied id ((n + 5) + 1) (reply_to (verdict z.state a.2.entry) a.2.entry.body a.2.next.state)) part
    ∙ (ap (λ z. b.0 ++ replied id ((n + 5) + 1) (reply_to (verdict b.2.part.state z) z.body a.2.next.state)) entry
    ∙ (ap (λ z. b.0 ++ replied id ((n + 5) + 1) (reply_to (verdict b.2.part.state b.2.entry) b.2.entry.body z.state)) next
    ∙ sym b.2.reply))))

target_before : (m : Mode) → target_in m ≡ target_in (mode_before m)
target_before mode.Normal = refl
target_before (mode.Merging target commit) = refl
target_before (mode.Merged target) = refl
target_before mode.Removed = refl

-- a reply says nothing of the mark
pub reply_unmarked : (v : Verdict) (b : Body) (s : RegionState) → reply_to v b s ≡ reply_to v b (unmarked s)
reply_unmarked verdicts.Empty b s = refl
reply_unmarked verdicts.Stale b s = refl
reply_unmarked verdicts.Merging b s = ap (λ t. reply.Merging t ∷ []) (target_before s.mode)
reply_unmarked (verdicts.Outside place) b s = refl
reply_unmarked (verdicts.BadSplit place) b s = refl
reply_unmarked verdicts.BadPeer b s = refl
reply_unmarked verdicts.BadRollback b s = refl
reply_unmarked verdicts.Accept b s = refl

-- a region's replies are its own
pub replied_mine : (id index : ℕ) (ys : List Reply) → replies_of (replied id index ys) id ≡ replied id index ys
replied_mine id index [] = refl
replied_mine id index (y ∷ ys) =
    ap (λ b. cond b (record { region = id; index = index; reply = y } ∷ replies_of (replied id index ys) id) (replies_of (replied id index ys) id)) (eq-eqb id id refl)
    ∙ ap (λ zs. record { region = id; index = index; reply = y } ∷ zs) (replied_mine id index ys)

-- and no other's
pub replied_other : (id index : ℕ) (ys : List Reply) (x : ℕ) → (x ≡ id → ⊥) → replies_of (replied id index ys) x ≡ []
replied_other id index [] x ne = refl
replied_other id index (y ∷ ys) x ne =
    ap (λ b. cond b (record { region = id; index = index; reply = y } ∷ replies_of (replied id index ys) x) (replies_of (replied id index ys) x)) (ne_eqb x id ne)
    ∙ replied_other id index ys x ne
