-- Endings that are read one after another.
use Rattle.std.proofs.Common.{◌≡◌, ◌∙◌, sym, refl, ap, List, [], ◌∷◌, ◌++◌}
use Rattle.std.specs.List.{flat_map}
use Rattle.std.proofs.lemmas.Grind.{flat_map-append}
use Rattle.std.proofs.lemmas.List.{append-nil, append_assoc}
use Rattle.rs_entry.specs.declared.outcome.ReplyLine.{ReplyLine}
use Rattle.rs_msg.specs.Maps.{Writes}
use Rattle.rs_msg.specs.declared.ending.Ending.{Ending}
use Rattle.rs_meta.specs.Readings.{writes_left}

-- all but the rest of the endings was read: their replies and writes
pub record HasRead (endings rest : List Ending) (reply_list : List ReplyLine) (kept : Writes) : Type 0 where
  pub done : List Ending
  pub all : endings ≡ done ++ rest
  pub replies : reply_list ≡ flat_map (λ e. e.replies) done
  pub writes : kept ≡ flat_map writes_left done

module _ (endings : List Ending) where
  -- nothing at first
  pub none_read : HasRead endings endings [] []
  none_read = record { done = []; all = refl; replies = refl; writes = refl }

  -- one more
  pub one_read : (e : Ending) (rest : List Ending) (replies : List ReplyLine) (kept : Writes) → HasRead endings (e ∷ rest) replies kept
      → HasRead endings rest (replies ++ e.replies) (kept ++ writes_left e)
  one_read e rest replies kept h = record {
    done = h.done ++ e ∷ [];
    all = h.all ∙ sym (append_assoc h.done (e ∷ []) rest);
    replies = ap (λ ys. ys ++ e.replies) h.replies ∙ (ap (λ ys. flat_map (λ x. x.replies) h.done ++ ys) (sym (append-nil e.replies)) ∙ sym (flat_map-append (λ x. x.replies) h.done (e ∷ [])));
    writes = ap (λ ws. ws ++ writes_left e) h.writes ∙ (ap (λ ws. flat_map writes_left h.done ++ ws) (sym (append-nil (writes_left e))) ∙ sym (flat_map-append writes_left h.done (e ∷ [])));
  }

  -- at the end all
  module _ (rest : List Ending) (replies : List ReplyLine) (kept : Writes) (h : HasRead endings rest replies kept) (over : rest ≡ []) where
    whole : h.done ≡ endings
    whole = sym (append-nil h.done) ∙ (ap (λ es. h.done ++ es) (sym over) ∙ sym h.all)

    pub replies_read : replies ≡ flat_map (λ e. e.replies) endings
    replies_read = h.replies ∙ ap (flat_map (λ e. e.replies)) whole

    pub writes_read : kept ≡ flat_map writes_left endings
    writes_read = h.writes ∙ ap (flat_map writes_left) whole
