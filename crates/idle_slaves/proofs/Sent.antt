-- THE ONE DATAGRAM OF AN OPEN SLAVE, as it is sent and as it comes back from the slave.
use Rattle.std.proofs.Common.{◌≡◌, ℕ, ◌==◌, Bool, true, false, Option, Some, None, List, [], ◌∷◌, refl, sym, ap, ◌∙◌, subst, eq-eqb, inl, inr}
use Rattle.std.specs.Prelude.{◌⊎◌, if◌then◌else◌}
use Rattle.plan_ring.specs.of_datagrams.Datagram as Raw
use Rattle.plan_ring.specs.of_datagrams.declared.command.Command.{Command}
use Rattle.plan_ring.specs.of_datagrams.declared.command.Command.TheVariants.{Fprd, Fpwr}
use Rattle.plan_ring.specs.of_frame_view.Seen.{datagrams_seen}
use Rattle.plan_ring.specs.of_frame_view.View.{Lens, datagram_seen, address_of, station_of, register_counter, link_counter, found_of}
use Rattle.idle_slaves.specs.Going.{AccessCame}
use Rattle.idle_slaves.specs.Visited.{CameBack, Meets}
use Rattle.plan_ring.specs.of_frame_view.Frames.{FrameFor, GramFor, IsOpenGram, Share}
use Rattle.plan_ring.proofs.of_frame_view.Frames.{own_none, own_one}
use Rattle.plan_ring.specs.of_life_model.Visits.{Visit}
use Rattle.plan_ring.specs.of_life_model.Lives.{Spot, Stand}
use Rattle.plan_ring.specs.of_life_model.Own.{own}
use Rattle.plan_ring.specs.of_link_mails.Body.{Body}
use Rattle.plan_ring.specs.of_link_model.Frames.{Ask, Gram, gram_meets, mail_back, node_meets, write_done, read_done, counted}
use Rattle.plan_ring.specs.of_link_model.Link.{Halves, write_counter}
use Rattle.plan_ring.specs.of_link_model.Mails.{LinkMail}
use Rattle.plan_ring.specs.of_segment_model.Record.{is_for}
use Rattle.plan_ring.specs.of_segment_model.Slaves.{Datagram, Address, Access, Found, Slave, is_meant, address_behind, datagram_meets, slave_meets, counter_met, found_met, registers_met}
use Rattle.plan_ring.specs.of_state_model.States.{Phase, reads}
use Rattle.plan_ring.specs.of_state_model.Accounts.{Duty, phase_access}
use Rattle.idle_slaves.specs.Eager.{AsksVisit}
use Rattle.idle_slaves.specs.EagerFrames.{IsSent, One}

no_count : (a : Access) (n : ℕ) → n ≡ 0 → register_counter a n ≡ 0
no_count (Access.SetStation station) n e = e
no_count (Access.SetFirst right) n e = e
no_count (Access.SetSecond right) n e = e
no_count (Access.SetControl target acknowledge) n e = e
no_count Access.ReadState n e = e
no_count Access.ReadFull n e = e
no_count Access.Elsewhere n e = refl

no_link_count : (a : Ask Body) (n : ℕ) → n ≡ 0 → link_counter a n ≡ 0
no_link_count (Ask.WriteMail m) n e = e
no_link_count Ask.ReadMail n e = e
no_link_count (Ask.WriteRequest bit) n e = e
no_link_count Ask.ReadAcknowledge n e = e
no_link_count Ask.Other n e = refl

not_found : (a : Access) (n : ℕ) (octets : List ℕ) → n ≡ 0 → found_of a n octets ≡ None
not_found (Access.SetStation station) n octets e = refl
not_found (Access.SetFirst right) n octets e = refl
not_found (Access.SetSecond right) n octets e = refl
not_found (Access.SetControl target acknowledge) n octets e = refl
not_found Access.ReadState n octets e = ap (λ k. found_of Access.ReadState k octets) e
not_found Access.ReadFull n octets e = ap (λ k. found_of Access.ReadFull k octets) e
not_found Access.Elsewhere n octets e = refl

address_is : (c : Command) (adp : ℕ) → (c ≡ Fprd) ⊎ (c ≡ Fpwr) → address_of c adp ≡ Address.Station adp
address_is c adp (inl e) = ap (λ z. address_of z adp) e
address_is c adp (inr e) = ap (λ z. address_of z adp) e

of_it : (c : Command) (adp : ℕ) → (c ≡ Fprd) ⊎ (c ≡ Fpwr) → station_of c adp ≡ adp
of_it c adp (inl e) = ap (λ z. station_of z adp) e
of_it c adp (inr e) = ap (λ z. station_of z adp) e

open_sent : (lens : ℕ → Lens) (station : ℕ) (d : Raw.Datagram) → IsOpenGram station d → IsSent station (datagram_seen lens d)
open_sent lens station d g =
    let x = datagram_seen lens d in
    record {
      station_is = of_it d.head.command d.head.adp g.to.command ∙ g.to.adp;
      address = address_is d.head.command d.head.adp g.to.command ∙ ap (λ z. Address.Station z) g.to.adp;
      gram = no_link_count x.gram.ask d.head.counter g.counter;
      counter = no_count x.access d.head.counter g.counter;
      found = not_found x.access d.head.counter d.body g.counter;
    }

module _ (lens : ℕ → Lens) (ds : List Raw.Datagram) (sent : List (Datagram Body)) (view : sent ≡ datagrams_seen lens ds) (spot : Spot) (share : Share) where
  pub one_sent : (stand : Stand) → stand ≡ Stand.Open → FrameFor lens spot stand share ds → share.under ≡ true → One spot.station sent
  one_sent stand e (FrameFor.none none n) under = absurd (let no : true ≡ false = sym under ∙ none in cc)
  one_sent stand e (FrameFor.one is d has gram) under =
      let g : IsOpenGram spot.station d = subst (λ z. GramFor lens spot z d) e gram in
      let z = open_sent lens spot.station d g in
      record {
        datagram = datagram_seen lens d;
        is = ap (own spot.station) view ∙ own_one lens spot share.at d ds has (ap (is_for spot.station) z.address ∙ eq-eqb spot.station spot.station refl);
        sent_so = z;
      }

  pub none_sent : (stand : Stand) → FrameFor lens spot stand share ds → share.under ≡ false → own spot.station sent ≡ []
  none_sent stand (FrameFor.none none n) out = ap (own spot.station) view ∙ own_none lens spot ds n
  none_sent stand (FrameFor.one is d has gram) out = absurd (let no : true ≡ false = sym is ∙ out in cc)

-- AS IT COMES BACK from the slave
module _ {V : Type 0} (station : ℕ) (s : Slave V Body) (here : s.registers.station ≡ station) (d : Datagram Body) (z : IsSent station d) where
  abbrev pub met : Datagram Body
  met = datagram_meets station s d

  pub meant : (s.registers.station == station) ≡ true
  meant = eq-eqb s.registers.station station here

  pub gram_is : met.gram ≡ gram_meets s.node d.gram.ask d.gram
  gram_is = ap (λ (b : Bool). if b then gram_meets s.node d.gram.ask d.gram else d.gram) (eq-eqb d.gram.station station z.station_is)

  pub by_address : {T : Type 0} (x y : T) → (if is_meant s.registers d.address then x else y) ≡ x
  by_address x y = ap (λ (a : Address). if is_meant s.registers a then x else y) z.address ∙ ap (λ (b : Bool). if b then x else y) meant

  pub counter_is : met.counter ≡ counter_met 0 d.access
  counter_is = by_address (counter_met d.counter d.access) d.counter ∙ ap (λ c. counter_met c d.access) z.counter

  pub found_is : met.found ≡ found_met s None d.access
  found_is = by_address (found_met s d.found d.access) d.found ∙ ap (λ f. found_met s f d.access) z.found

  pub ask_kept : (a : Ask Body) (g : Gram Body) → (gram_meets s.node a g).ask ≡ g.ask
  ask_kept (Ask.WriteMail m) g = go s.node.out.box
    where
      go : (b : Option (LinkMail Body)) → (write_done g b).ask ≡ g.ask
      go None = refl
      go (Some x) = refl
  ask_kept Ask.ReadMail g = go s.node.inn.box
    where
      go : (b : Option (LinkMail Body)) → (read_done g b).ask ≡ g.ask
      go None = refl
      go (Some x) = refl
  ask_kept (Ask.WriteRequest bit) g = refl
  ask_kept Ask.ReadAcknowledge g = refl
  ask_kept Ask.Other g = refl

  pub station_kept : (a : Ask Body) (g : Gram Body) → (gram_meets s.node a g).station ≡ g.station
  station_kept (Ask.WriteMail m) g = go s.node.out.box
    where
      go : (b : Option (LinkMail Body)) → (write_done g b).station ≡ g.station
      go None = refl
      go (Some x) = refl
  station_kept Ask.ReadMail g = go s.node.inn.box
    where
      go : (b : Option (LinkMail Body)) → (read_done g b).station ≡ g.station
      go None = refl
      go (Some x) = refl
  station_kept (Ask.WriteRequest bit) g = refl
  station_kept Ask.ReadAcknowledge g = refl
  station_kept Ask.Other g = refl

  pub met_ask : met.gram.ask ≡ d.gram.ask
  met_ask = ap (λ (g : Gram Body). g.ask) gram_is ∙ ask_kept d.gram.ask d.gram

  pub met_station : met.gram.station ≡ station
  met_station = ap (λ (g : Gram Body). g.station) gram_is ∙ station_kept d.gram.ask d.gram ∙ z.station_is

  pub met_address : is_for station met.address ≡ true
  met_address = ap (λ (a : Address). is_for station (address_behind a)) z.address ∙ eq-eqb station station refl

  -- the node and the registers behind it
  pub node_behind : (slave_meets station s d).node ≡ node_meets s.node met.gram.ask
  node_behind = ap (λ (b : Bool). if b then node_meets s.node d.gram.ask else s.node) (eq-eqb d.gram.station station z.station_is) ∙ ap (node_meets s.node) (sym met_ask)

  pub registers_behind : (slave_meets station s d).registers ≡ registers_met s.registers d.access
  registers_behind = by_address (registers_met s.registers d.access) s.registers

  wrote : (box : Option (LinkMail Body)) → (write_done d.gram box).counter ≡ write_counter box
  wrote None = ap counted z.gram
  wrote (Some x) = z.gram

  read : (box : Option (LinkMail Body)) → mail_back (read_done d.gram box) ≡ box
  read None = ap (λ (b : Bool). if b then None else d.gram.mail) (ap (λ n. n == 0) z.gram)
  read (Some x) = ap (λ (n : ℕ). if counted n == 0 then None else Some x) z.gram

  pub meets : (h : Halves Body) (visit : Visit) → AsksVisit h visit d → Meets s.node h visit met
  meets h Visit.Write (m, held, ask, access) = (m, held, met_ask ∙ ask, ap (λ (g : Gram Body). g.counter) (gram_is ∙ ap (λ a. gram_meets s.node a d.gram) ask) ∙ wrote s.node.out.box, access)
  meets h Visit.Read (ask, access) = (met_ask ∙ ask, ap mail_back (gram_is ∙ ap (λ a. gram_meets s.node a d.gram) ask) ∙ read s.node.inn.box, access)
  meets h Visit.Full (ask, access) =
      (met_ask ∙ ask, access, ap (λ n. n == 0) (counter_is ∙ ap (counter_met 0) access), found_is ∙ ap (found_met s None) access)

  -- a read of an empty mailbox 1 does nothing
  pub read_counter : d.gram.ask ≡ Ask.ReadMail → s.node.inn.box ≡ None → (met.gram.counter == 0) ≡ true
  read_counter ask empty = ap (λ n. n == 0) (ap (λ (g : Gram Body). g.counter) (gram_is ∙ ap (λ a. gram_meets s.node a d.gram) ask) ∙ ap (λ b. (read_done d.gram b).counter) empty ∙ z.gram)

  abbrev Back : List (Datagram Body) → Type 0
  Back back = own station back ≡ met ∷ []

  abbrev pub came_back : (back : List (Datagram Body)) (h : Halves Body) (visit : Visit) → own station back ≡ met ∷ [] → AsksVisit h visit d → CameBack station s.node h visit back
  came_back back h visit one asks = record { datagram = met; one = one; station_is = met_station; address = met_address; meets = meets h visit asks }

  pub phase_counter : (target : ℕ) (phase : Phase) → (counter_met 0 (phase_access target phase) == 0) ≡ false
  phase_counter target Phase.Ask = refl
  phase_counter target Phase.Await = refl
  phase_counter target (Phase.Acknowledge state code) = refl
  phase_counter target (Phase.Recover code) = refl

  pub phase_found : (target : ℕ) (phase : Phase) → reads phase ≡ true → found_met s None (phase_access target phase) ≡ Some (Found.State s.registers.state s.registers.refused)
  phase_found target Phase.Ask e = absurd (cc)
  phase_found target Phase.Await e = refl
  phase_found target (Phase.Acknowledge state code) e = absurd (cc)
  phase_found target (Phase.Recover code) e = refl

  abbrev pub access_came : (back : List (Datagram Body)) (duty : Duty) (phase : Phase) → own station back ≡ met ∷ [] → d.access ≡ phase_access duty.target phase → AccessCame station duty phase s.registers back
  access_came back duty phase one access = record {
    datagram = met;
    one = one;
    address = met_address;
    access = access;
    met = ap (λ n. n == 0) (counter_is ∙ ap (counter_met 0) access) ∙ phase_counter duty.target phase;
    found = λ r. found_is ∙ ap (found_met s None) access ∙ phase_found duty.target phase r;
  }
