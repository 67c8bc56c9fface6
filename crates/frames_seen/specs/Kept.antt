-- What a frame leaves of a slave's registers, whatever its octets are.
use Rattle.std.specs.Prelude.{◌≡◌, length}
use Rattle.slave_node.specs.of_esc_registers.declared.registers.Registers as Esc

-- AL status and AL status code, which only the slave writes, and the lengths of its mailboxes
pub record FrameKeeps (r q : Esc.Registers) : Type 0 where
  pub status : q.al_status ≡ r.al_status
  pub code : q.al_code ≡ r.al_code
  pub outward : length q.out_manager.area ≡ length r.out_manager.area
  pub inward : length q.in_manager.area ≡ length r.in_manager.area
