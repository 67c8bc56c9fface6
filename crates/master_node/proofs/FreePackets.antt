-- A SIDE WHOSE NEWEST SERVICE IS A PACKET is free just where that is over and its hand knows its mails.
use Rattle.std.proofs.Common.{◌≡◌, Bool, true, false, Option, Some, None, List, [], ◌∷◌, refl, sym, ap, ◌∙◌}
use Rattle.std.specs.Prelude.{◌&&◌, not, is_none, is_some, option_map, if◌then◌else◌}
use Rattle.life_runs.specs.of_mailbox_mail.declared.mail.Mail.{Mail}
use Rattle.life_runs.specs.of_master_duty.Reply.{Reply}
use Rattle.life_runs.specs.of_exchange_model.Exchange.{Speech}
use Rattle.life_runs.specs.of_exchange_model.Rows.{Row}
use Rattle.life_runs.specs.of_segment_model.Seats as Seats
use Rattle.life_runs.specs.of_segment_model.Seats.{is_none_left}
use Rattle.life_runs.specs.of_state_model.Accounts.{Account, is_free}
use Rattle.life_runs.proofs.of_master_hand.Hands.{goes_is, sent_free}
use Rattle.life_runs.proofs.of_master_hand.Knowing.{goes_over}
use Rattle.life_runs.specs.of_master_hand.Over.{done_by, is_sent_by, over_by}
use Rattle.life_runs.specs.of_master_hand.Shown.{Shows, knows}
use Rattle.life_runs.specs.of_master_hand.Spoken.{Asked, net}
use Rattle.life_runs.specs.of_master_hand.Talk.{Talking, client_awaits, client_later, is_handed, is_read, which_of}
use Rattle.life_runs.specs.of_master_hand.contracts.hand.InHandHand.TheImpl as Impl
use Rattle.life_runs.specs.of_master_hand.declared.clients.Which.{Which}
use Rattle.life_runs.specs.of_master_hand.declared.course.Course.{Course}
use Rattle.life_runs.specs.of_master_hand.declared.hand.InHand.{InHand}
use Rattle.life_runs.specs.of_protocol_models.EoeClient as EoeClient
use Rattle.life_runs.specs.of_master_side.Carried.{in_hand}
use Rattle.life_runs.specs.of_master_side.Free.{is_free_side}
use Rattle.life_runs.specs.of_master_side.Shown.{SideShows}
use Rattle.life_runs.specs.of_master_side.declared.side.Side.{Side}
use Rattle.life_runs.specs.of_link_mails.Body.{Body, link_mail}
use Rattle.life_runs.specs.of_link_model.Link.{Halves}
use Rattle.master_node.specs.Begins.{is_other}
use Rattle.master_node.proofs.Frees.{no_hand}

packet_which : (q : Asked) → is_other q ≡ false → which_of q ≡ Which.Packet
packet_which (net (EoeClient.packet octets frame)) e = refl
packet_which _ e = absurd (let bad : true ≡ false = e in cc)

-- two tests of which each follows from the other
same_test : (a b : Bool) → (a ≡ true → b ≡ true) → (b ≡ true → a ≡ true) → a ≡ b
same_test true b f g = sym (f refl)
same_test false true f g = g refl
same_test false false f g = refl

and_true : (a b : Bool) → b ≡ true → (a && b) ≡ a
and_true true b e = e
and_true false b e = refl

both : (a b : Bool) → (a && b) ≡ true → (a ≡ true) × (b ≡ true)
both true b e = (refl, e)
both false b e = absurd (let bad : false ≡ true = e in cc)

none_in : (ms : List Body) → is_none_left ms ≡ true → ms ≡ []
none_in [] e = refl
none_in (m ∷ ms) e = absurd (let bad : false ≡ true = e in cc)

none_held : (o : Option Mail) → is_none o ≡ true → option_map link_mail o ≡ None
none_held None e = refl
none_held (Some m) e = absurd (let bad : false ≡ true = e in cc)

held_none : (o : Option Mail) → option_map link_mail o ≡ None → is_none o ≡ true
held_none None e = refl
held_none (Some m) e = absurd (cc)

module _ (which : Which) (c : Talking) (fresh : Bool) (state : Option Mail) (x : Speech Body Asked Reply) (d : Seats.Side Body Asked Reply) (r : Row Body Asked Reply) (now : d.now ≡ Some r) (packet : is_other r.service ≡ false)
    (held : d.halves.out.holding ≡ option_map link_mail state) (unsent : d.fresh ≡ fresh) where
  abbrev idle : Bool
  idle = is_none state

  idles : d.halves.out.holding ≡ None → idle ≡ true
  idles e = held_none state (sym held ∙ e)

  holds : idle ≡ true → d.halves.out.holding ≡ None
  holds e = held ∙ none_held state e

  kind_is : (q : Asked) → q ≡ r.service → which_of q ≡ which → which ≡ Which.Packet
  kind_is q e k = sym k ∙ ap which_of e ∙ packet_which r.service packet

  row_is : (k : Row Body Asked Reply) → d.now ≡ Some k → k.service ≡ r.service
  row_is k e = (let same : k ≡ r = (let both : Some k ≡ Some r = sym e ∙ now in cc) in ap (λ z. z.service) same)

  sent_is : Shows Course.Goes which c x d.now → is_sent_by false which c fresh idle ≡ is_free x d d.now
  sent_is s = same_test (is_sent_by false which c fresh idle) (is_free x d d.now)
      (λ e. (let b = both (is_none_left (client_later which c [])) (if is_handed which && true then idle else false && not fresh) e in
      sent_free false Course.Goes which c fresh idle x d (goes_is Course.Goes which c d.now refl) (none_in (client_later which c []) b.0) b.1 unsent holds s))
      (λ e. (let o = goes_over Course.Goes which c fresh idle x d refl unsent idles s e in
      (λ i. is_none_left (o.left i) && o.done i)))

  packet_free : (course : Course) → Shows course which c x d.now → (over_by course which c fresh idle && done_by course which c idle) ≡ (knows course && is_free x d d.now)
  packet_free Course.Nothing s = absurd (let bad : None ≡ Some r = sym s.1 ∙ now in cc)
  packet_free Course.Goes s =
      and_true (is_sent_by false which c fresh idle) (if is_read which then idle else true) (ap (λ (z : Which). if is_read z then idle else true) (kind_is s.1.row.service (row_is s.1.row s.1.is) s.1.kind)) ∙ sent_is s
  packet_free Course.Answered s = absurd (go s.1.row.answer refl)
    where
      go : (o : Option _) → s.1.row.answer ≡ o → ⊥
      go None e = absurd (let bad : false ≡ true = ap is_some (sym e) ∙ s.1.answer in cc)
      go (Some a) e = absurd (let bad : None ≡ Some a.0 = sym (ap (λ z. client_awaits z c []) (kind_is s.1.row.service (row_is s.1.row s.1.is) s.1.kind)) ∙ s.1.kept a e in cc)
  packet_free Course.Mute s = refl
  packet_free Course.Closed s = refl
  packet_free Course.Astray s = refl

-- of a side that has no change of state and no mail in hand that is passed on
pub free_packet : (s : Side InHand Impl.ghosts) (x : Speech Body Asked Reply) (d : Seats.Side Body Asked Reply) (a : Account Asked Reply) (r : Row Body Asked Reply) →
    SideShows (Shows s.hand.course s.hand.which s.hand.clients x) s.out s.inn s.fresh s.duty d a → a.hand ≡ None → s.passing ≡ None → d.now ≡ Some r → is_other r.service ≡ false → is_free_side s ≡ (knows s.hand.course && is_free x d d.now)
free_packet s x d a r h n p e o =
    (λ i. (is_none (no_hand (in_hand s.duty) a.hand n h.state i) && is_none (p i)) && (over_by s.hand.course s.hand.which s.hand.clients s.fresh (is_none s.out.state) && done_by s.hand.course s.hand.which s.hand.clients (is_none s.out.state)))
    ∙ packet_free s.hand.which s.hand.clients s.fresh s.out.state x d r e o (ap (λ (z : Halves Body). z.out.holding) h.halves) h.unsent s.hand.course h.row
