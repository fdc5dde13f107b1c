use Rattle.std.proofs.Common.{◌≡◌, All, slice_index_or, sym, subst, ◌∙◌}
use Rattle.rs_mailbox.specs.Stations.{mailbox_name}
use Rattle.rs_router.specs.Desks.{AllCalm, AreDesksOf, AreNewDesks}
use Rattle.rs_router.proofs.Places.{passes_on}
use Rattle.rs_router.proofs.NewDesks.{new_desks, new_calm}
use Rattle.rs_router.proofs.router.Router.new.Goals as goal

pub returns-clause-name : goal.returns-clause-name
returns-clause-name g c = λ n all.
    passes_on (λ x b. mailbox_name g.F.Named.name b ≡ g.F.Named.name x) (λ x. g.F.Named.name x ≡ n) (λ b. mailbox_name g.F.Named.name b ≡ n) (λ x b r p. r ∙ p)
    c.args.machines c.in_ok-mailboxes.mailboxes.items c.in_ok-mailboxes.ensures.names all

pub returns-clause-new : goal.returns-clause-new
returns-clause-new g c =
    subst (All (λ d. AreNewDesks g.F.Named.name c.in_ok-mailboxes.mailboxes.items d.stations.items)) (sym c.from_vec.ensures) c.in_ok-mailboxes.ensures.desks

pub returns-clause-desks : goal.returns-clause-desks
returns-clause-desks g c =
    subst (All (λ d. AreDesksOf g.F.Named.name c.in_ok-mailboxes.mailboxes.items d.stations.items)) (sym c.from_vec.ensures)
    (λ k d within. new_desks g.F.Named.name c.in_ok-mailboxes.mailboxes.items (slice_index_or c.in_ok-mailboxes.desks.items k d).stations.items (c.in_ok-mailboxes.ensures.desks k d within))

pub returns-clause-calm : goal.returns-clause-calm
returns-clause-calm g c =
    subst (All (λ d. AllCalm d.stations.items)) (sym c.from_vec.ensures)
    (λ k d within. new_calm g.F.Named.name c.in_ok-mailboxes.mailboxes.items (slice_index_or c.in_ok-mailboxes.desks.items k d).stations.items (c.in_ok-mailboxes.ensures.desks k d within))
