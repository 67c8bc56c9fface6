-- THE PACKETS AND THE MAILS PASSED ON that came into hand of slaves, as they are counted and noted.
use Rattle.std.specs.Prelude.{◌≡◌, ℕ, List, length}
use Rattle.packets_heard.specs.of_master_node.Origins.{forwards_at}
use Rattle.packets_heard.specs.of_master_node.declared.node.MasterNode.{MasterNode}
use Rattle.run_notes.specs.Packets.{AreMails, AreNumbered, begun_noted}
use Rattle.run_notes.specs.declared.notes.Notes.{Notes}

-- WHAT CAME INTO HAND BESIDE THE SCRIPTS before these frames of each slave: so many packets its master has counted, and just these are noted, numbered; and just
-- these mails that were passed on are, each with its number
pub record PacketsNoted (frames : ℕ → List ℕ) (mails : ℕ → List (ℕ × ℕ)) (m : MasterNode) (notes : List Notes) : Type 0 where
  pub counts : (k : ℕ) → forwards_at m.posts.items k ≡ length (frames k)
  pub rows : AreNumbered frames (begun_noted notes)
  pub mailed : AreMails mails (begun_noted notes)
