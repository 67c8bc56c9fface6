-- A run in code, against the link that it shows.
use Rattle.std.specs.Prelude.{◌≡◌, ℕ, ◌+◌, ◌-◌, List, ◌++◌, length, take}
use Rattle.mailbox_master.specs.of_link_model.Link.{Link}
use Rattle.mailbox_master.specs.of_link_mails.Body.{Body}
use Rattle.mailbox_master.specs.Any.{out_half_of, out_station, out_len, in_half_of, in_station, in_area_len}
use Rattle.mailbox_slave.specs.Kept.{KeptFits}
use Rattle.mailbox_slave.specs.Node.{out_side, in_side, node_of}
use Rattle.mailbox_law.specs.Waiting.{bodies_of}
use Rattle.mailbox_law.specs.Wire.{IsLinked}
use Rattle.mailbox_law.specs.Steps.{link_behind}
use Rattle.mailbox_law.specs.declared.steps.LinkStep.{LinkStep}
use Rattle.mailbox_law.specs.declared.world.World.{World}

-- the station and the lengths of the areas are those of the slave and of both halves, and what the box keeps and what
-- waits fits mailbox 1
pub record IsSound (outward inward : ℕ) (x : World) : Type 0 where
  pub out_station : out_station x.outward ≡ 4097
  pub in_station : in_station x.inward ≡ 4097
  pub out_area : out_len x.outward ≡ outward
  pub in_area : in_area_len x.inward ≡ inward
  pub linked : IsLinked 4097 outward inward x.esc
  pub kept : KeptFits inward x.slave_box
  pub room : x.keeper.room + 6 ≡ inward

-- a list without as many at its end as another one has
abbrev pub without : {A : Type 0} → List A → List A → List A
without xs ys = take (length xs - length ys) xs

-- the link that a run in code is: its halves, its registers with its box, and its mails; offered are the mails given
-- without those that wait still
abbrev pub link_of : World → Link Body (List Body)
link_of x = record {
  halves = record { out = out_half_of x.outward; inn = in_half_of x.inward };
  node = node_of x.slave_box x.esc (bodies_of x.keeper.waiting);
  held = bodies_of x.held;
  taken = bodies_of x.keeper.taken;
  offered = without (bodies_of x.given) (bodies_of x.keeper.waiting);
  accepted = bodies_of x.accepted;
}

-- halves, node and the four lists are those of the link; offered are the mails given, of which some still wait
pub record Shows (x : World) (w : Link Body (List Body)) : Type 0 where
  pub out_half : out_half_of x.outward ≡ w.halves.out
  pub in_half : in_half_of x.inward ≡ w.halves.inn
  pub out : out_side x.slave_box x.esc ≡ w.node.out
  pub inn : in_side x.slave_box x.esc ≡ w.node.inn
  pub waiting : bodies_of x.keeper.waiting ≡ w.node.server
  pub held : bodies_of x.held ≡ w.held
  pub taken : bodies_of x.keeper.taken ≡ w.taken
  pub given : bodies_of x.given ≡ w.offered ++ w.node.server
  pub accepted : bodies_of x.accepted ≡ w.accepted

-- behind the first i of these steps
pub record Runs (outward inward : ℕ) (steps : List LinkStep) (i : ℕ) (x : World) : Type 0 where
  pub sound : IsSound outward inward x
  pub shows : Shows x (link_behind (take i steps))
