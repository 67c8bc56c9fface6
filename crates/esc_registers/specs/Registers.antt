use Rattle.std.specs.Prelude.{ℕ, Bool, false, ◌&&◌, replicate}
use Rattle.esc_registers.specs.declared.manager.Manager.{Manager}
use Rattle.esc_registers.specs.declared.registers.Registers.{Registers}
use Rattle.esc_registers.specs.Manager.{is_right}

-- a manager that was never written
abbrev pub first_manager : ℕ → Manager
first_manager len = record {
  start = 0;
  length = 0;
  control = 0;
  activate = 0;
  acknowledge = false;
  full = false;
  area = replicate len 0;
}

-- all registers are 0 at first, and AL status is 1
abbrev pub first_registers : ℕ → ℕ → Registers
first_registers out_len in_len = record {
  station = 0;
  al_control = 0;
  unhandled = false;
  al_status = 1;
  al_code = 0;
  out_manager = first_manager out_len;
  in_manager = first_manager in_len;
}

-- both managers are the slave's own
abbrev pub are_areas_right : Registers → Bool
are_areas_right r = is_right 4096 38 r.out_manager && is_right 6144 34 r.in_manager
