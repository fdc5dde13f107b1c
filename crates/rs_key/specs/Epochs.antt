-- What of an epoch an entry compares, and how accepted entries raise it.
use Rattle.std.specs.Prelude.{ℕ, ◌+◌, ◌==◌, ◌&&◌, max, Bool, true}
use Rattle.rs_key.specs.declared.epoch.Epoch.{Epoch}
use Rattle.rs_key.specs.declared.epoch.Kind.{Kind}
use Rattle.rs_key.specs.declared.epoch.Kind.TheVariants.{Empty, Write, Split, Prepare, Commit, Rollback, Conf}

-- both numbers are equal
abbrev pub same_epochs : Epoch → Epoch → Bool
same_epochs a b = (a.version == b.version) && (a.conf_ver == b.conf_ver)

-- an entry of the kind that was proposed at the second epoch fits a region at the first
abbrev pub fits : Kind → Epoch → Epoch → Bool
fits Empty region proposed = true
fits Write region proposed = region.version == proposed.version
fits Split region proposed = region.version == proposed.version
fits Prepare region proposed = same_epochs region proposed
fits Commit region proposed = same_epochs region proposed
fits Rollback region proposed = same_epochs region proposed
fits Conf region proposed = region.conf_ver == proposed.conf_ver

-- the epoch after a split that makes n new regions
abbrev pub after_split : Epoch → ℕ → Epoch
after_split e n = record { conf_ver = e.conf_ver; version = e.version + n }

-- the source's epoch after a prepared merge
abbrev pub after_prepare : Epoch → Epoch
after_prepare e = record { conf_ver = e.conf_ver + 1; version = e.version + 1 }

-- the target's epoch after a committed merge
abbrev pub after_commit : Epoch → Epoch → Epoch
after_commit e source = record { conf_ver = e.conf_ver; version = max e.version source.version + 1 }

-- the source's epoch after its prepared merge was rolled back
abbrev pub after_rollback : Epoch → Epoch
after_rollback e = record { conf_ver = e.conf_ver; version = e.version + 1 }

-- the epoch after a conf change
abbrev pub after_conf : Epoch → Epoch
after_conf e = record { conf_ver = e.conf_ver + 1; version = e.version }
