use Rattle.normal_file.proofs.Forms.{fewer_bytes}
use Rattle.normal_file.proofs.write.write_normal_from.Goals as goal

pub whole_as_slice-over : goal.whole_as_slice-over
whole_as_slice-over g c = fewer_bytes _ _ _ c.requires c.well_formed.0.1
