use Rattle.rs_text.proofs.faults.put_fault.Goals as goal

pub returns-in-Overlap : goal.returns-in-Overlap
returns-in-Overlap c = rw c.in-Overlap.is c.put_pair-in-Overlap.ensures
