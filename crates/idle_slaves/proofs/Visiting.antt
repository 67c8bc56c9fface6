-- A visit in vain leaves halves and slave.
use Rattle.std.proofs.Common.{◌≡◌, ◌≢◌, Bool, Option, Some, None, refl, sym, ap, ◌∙◌, arith, inl, inr}
use Rattle.plan_ring.specs.of_life_model.Visits.{Visit, empty_gain, visit_gain, visited}
use Rattle.plan_ring.specs.of_link_model.Agree.{Agrees}
use Rattle.plan_ring.specs.of_link_model.Gains.{HasStepped, write_gain, read_gain}
use Rattle.plan_ring.specs.of_link_model.Link.{Link, Fate, Event, out_half_after, out_side_after, in_half_after, in_side_after}
use Rattle.plan_ring.specs.of_link_model.Mails.{LinkMail, differs}
use Rattle.plan_ring.specs.of_link_model.Master.{InHalf, InState, OutHalf}
use Rattle.plan_ring.specs.of_link_model.Slave.{Server, InSide, OutSide, Node}
use Rattle.plan_ring.proofs.of_link_model.Gains.{hold_gains}
use Rattle.plan_ring.proofs.of_link_model.Law.{happens_keeps}

-- A READ IN VAIN found mailbox 1 empty
none_read : {B : Type 0} (state : InState) (box : Option (LinkMail B)) (differ : Bool) → state ≡ InState.Clear → read_gain state box differ ≡ 0 → box ≡ None
none_read InState.Clear None differ e f = refl
none_read InState.Clear (Some m) differ e f = absurd (let one : 1 ≡ 0 = f in omega (arith, one))
none_read InState.Doubt box differ e f = absurd (cc)
none_read InState.Asked box differ e f = absurd (cc)
none_read InState.Refetch box differ e f = absurd (cc)

pub read_empty : {B S : Type 0} (v : Server B S) (w : Link B S) → w.halves.inn.state ≡ InState.Clear → visit_gain w Visit.Read ≡ 0 → w.node.inn.box ≡ None
read_empty v w e g = none_read w.halves.inn.state w.node.inn.box (differs w.node.inn.acknowledge w.halves.inn.bit) e g

-- A WRITE IN VAIN, and mailbox 0 seen full, leave a mail in mailbox 1
pub write_full : {B S : Type 0} (v : Server B S) (w : Link B S) → HasStepped v w.node → w.halves.out.holding ≢ None → visit_gain w Visit.Write ≡ 0 → w.node.inn.box ≢ None
write_full v w s h g = elim (hold_gains v w s h) [ inl one ↦ absurd (let no : 1 ≡ 0 = sym one ∙ g in omega (arith, no)) | inr both ↦ both.1 ]

box_full : {B S : Type 0} (v : Server B S) (n : Node B S) (box : Option (LinkMail B)) → n.out.box ≡ box → HasStepped v n → empty_gain box ≡ 0 → n.inn.box ≢ None
box_full v n None e s g = absurd (let no : 1 ≡ 0 = g in omega (arith, no))
box_full v n (Some b) e s g = (s.stays b e).1

pub seen_full : {B S : Type 0} (v : Server B S) (w : Link B S) → HasStepped v w.node → visit_gain w Visit.Full ≡ 0 → w.node.inn.box ≢ None
seen_full v w s g = box_full v w.node w.node.out.box refl s g

-- nothing changes by it
pub record Same {B S : Type 0} (w u : Link B S) : Type 0 where
  pub halves : u.halves ≡ w.halves
  pub node : u.node ≡ w.node
  pub agrees : Agrees u

half_same : {B : Type 0} (h : OutHalf B) (holding box : Option (LinkMail B)) → write_gain holding box ≡ 0 → out_half_after h holding box Fate.Pass ≡ h
half_same h None box g = refl
half_same h (Some m) None g = absurd (let no : 1 ≡ 0 = g in omega (arith, no))
half_same h (Some m) (Some b) g = refl

side_same : {B : Type 0} (s : OutSide B) (holding box : Option (LinkMail B)) → write_gain holding box ≡ 0 → out_side_after s holding box Fate.Pass ≡ s
side_same s None box g = refl
side_same s (Some m) None g = absurd (let no : 1 ≡ 0 = g in omega (arith, no))
side_same s (Some m) (Some b) g = refl

read_half : {B : Type 0} (h : InHalf) (state : InState) (box : Option (LinkMail B)) (acknowledge : Bool) → h.state ≡ InState.Clear → state ≡ InState.Clear → box ≡ None → in_half_after h state box acknowledge Fate.Pass ≡ h
read_half h InState.Clear None acknowledge c e f = ap (λ z. record h { state = z }) (sym c)
read_half h InState.Clear (Some m) acknowledge c e f = absurd (cc)
read_half h InState.Doubt box acknowledge c e f = absurd (cc)
read_half h InState.Asked box acknowledge c e f = absurd (cc)
read_half h InState.Refetch box acknowledge c e f = absurd (cc)

read_side : {B : Type 0} (s : InSide B) (state : InState) (bit : Bool) → state ≡ InState.Clear → s.box ≡ None → in_side_after s state bit Fate.Pass ≡ s
read_side s InState.Clear bit e f = ap (λ z. record s { box = z }) (sym f)
read_side s InState.Doubt bit e f = absurd (cc)
read_side s InState.Asked bit e f = absurd (cc)
read_side s InState.Refetch bit e f = absurd (cc)

pub vain_same : {B S : Type 0} (v : Server B S) (w : Link B S) (visit : Visit) → Agrees w → w.halves.inn.state ≡ InState.Clear → visit_gain w visit ≡ 0 → Same w (visited v w visit)
vain_same v w Visit.Write a e g = record {
  halves = ap (λ z. record w.halves { out = z }) (half_same w.halves.out w.halves.out.holding w.node.out.box g);
  node = ap (λ z. record w.node { out = z }) (side_same w.node.out w.halves.out.holding w.node.out.box g);
  agrees = happens_keeps v w (Event.Out Fate.Pass) a;
}
vain_same v w Visit.Read a e g =
    let none = read_empty v w e g in
    record {
      halves = ap (λ z. record w.halves { inn = z }) (read_half w.halves.inn w.halves.inn.state w.node.inn.box w.node.inn.acknowledge e e none);
      node = ap (λ z. record w.node { inn = z }) (read_side w.node.inn w.halves.inn.state w.halves.inn.bit e none);
      agrees = happens_keeps v w (Event.In Fate.Pass) a;
    }
vain_same v w Visit.Full a e g = record { halves = refl; node = refl; agrees = a }
