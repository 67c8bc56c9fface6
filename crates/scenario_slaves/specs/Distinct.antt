-- What holds of a slave that was read, beside the ranges of its numbers.
use Rattle.std.specs.Prelude.{◌≡◌, [], true}
use Rattle.scenario_values.specs.of_segment_plan.declared.slave.SlaveSpec.{SlaveSpec}
use Rattle.scenario_values.specs.of_segment_plan.Sound.{IsSlave, are_new_files, are_new_idns}
use Rattle.scenario_slaves.specs.Plain.{HasMac}

-- a slave none of whose files has the name of another, and none of whose IDNs the drive and number of another
pub record IsDistinct (s : SlaveSpec) : Type 0 where
  pub files : are_new_files [] s.files ≡ true
  pub idns : are_new_idns [] s.idns ≡ true

-- a slave as it is read
pub record IsRead (s : SlaveSpec) : Type 0 where
  pub slave : IsSlave s
  pub distinct : IsDistinct s
  pub mac : HasMac s
