-- The datagram of a visit is one of its slave, of which a session speaks.
use Rattle.std.proofs.Common.{◌≡◌, inl, inr, ℕ, ◌+◌, ◌*◌, Bool, true, false, [], ◌∷◌, Option, Some, None, refl, sym, ap, ◌∙◌, subst}
use Rattle.std.specs.Prelude.{◌&&◌, not, is_some, if◌then◌else◌}
use Rattle.master_side.specs.of_frame_view.View.{Lens, datagram_seen}
use Rattle.master_side.specs.of_link_mails.Body.{Body}
use Rattle.master_side.specs.of_link_model.Link.{Halves}
use Rattle.master_side.specs.of_link_model.Master.{InState}
use Rattle.master_side.specs.of_mailbox_mail.declared.mail.Mail.{Mail}
use Rattle.master_side.specs.of_mailbox_master.declared.halves.InwardHalf.{InwardHalf}
use Rattle.master_side.specs.of_mailbox_master.declared.halves.InwardHalf.TheVariants.{Clear, Doubt, Asked, Refetch}
use Rattle.master_side.specs.of_mailbox_master.Halves.{bit_number}
use Rattle.master_side.specs.of_mailbox_master.Links.{OutLink}
use Rattle.master_side.specs.of_mailbox_master.Any.{in_half_of, in_station, in_area_len}
use Rattle.master_side.specs.of_segment_model.Slaves.{Access}
use Rattle.master_side.specs.of_segment_model.Seats.{Side}
use Rattle.master_side.specs.of_state_model.Accounts.{Account, duty_access}
use Rattle.master_side.specs.of_master_duty.declared.duty.Duty.{Duty}
use Rattle.master_side.specs.of_master_duty.declared.stage.Met.{Met}
use Rattle.master_side.specs.of_master_duty.declared.stage.Errand.{Errand}
use Rattle.master_side.specs.of_master_duty.Stages.{errand_of}
use Rattle.master_side.specs.of_master_duty.Reply.{Reply}
use Rattle.master_side.specs.declared.carried.Carried.{Carried}
use Rattle.master_side.specs.declared.passing.Passing.{Passing}
use Rattle.master_side.specs.Carried.{Meant, is_clear, link_choice, drain_choice, errand_choice, mails_choice, choice_of, duty_choice, in_hand}
use Rattle.master_side.specs.Sent.{write_gram, inward_gram, errand_gram, duty_gram, visit_gram}
use Rattle.master_side.specs.of_life_model.Lives.{Life, Spot}
use Rattle.master_side.specs.of_frame_view.Frames.{IsOpenGram, IsRequest, GramFor}
use Rattle.master_tour.specs.declared.stop.Stand.{Stand}
use Rattle.master_tour.specs.Stands.{StandMeant, stand_gram}
use Rattle.master_tour.specs.Made.{StopLives}

-- THE STATUS OF MAILBOX 0 is read only where the inward half is clear
never_full : (b : Bool) → (if b then Carried.Write else Carried.Inward) ≡ Carried.Full → ⊥
never_full true e = absurd (cc)
never_full false e = absurd (cc)

drain_clear : (s : InState) (turn : Bool) → drain_choice s turn ≡ Carried.Full → s ≡ InState.Clear
drain_clear InState.Clear turn e = refl
drain_clear InState.Doubt turn e = absurd (cc)
drain_clear InState.Asked turn e = absurd (cc)
drain_clear InState.Refetch turn e = absurd (cc)

link_clear : (s : InState) (paused : Bool) (held : Option Mail) → link_choice s paused held ≡ Carried.Full → s ≡ InState.Clear
link_clear s paused held e = absurd (never_full (is_clear s && (not paused && is_some held)) e)

mails_clear : (passing : Option Passing) (s : InState) (turn paused : Bool) (held : Option Mail) → mails_choice passing s turn paused held ≡ Carried.Full → s ≡ InState.Clear
mails_clear None s turn paused held e = link_clear s paused held e
mails_clear (Some Passing.Waiting) s turn paused held e = link_clear s paused held e
mails_clear (Some Passing.Sent) s turn paused held e = link_clear s paused held e
mails_clear (Some Passing.Boxed) s turn paused held e = drain_clear s turn e
mails_clear (Some Passing.Served) s turn paused held e = link_clear s paused held e
mails_clear (Some Passing.Answered) s turn paused held e = link_clear s paused held e

errand_clear : (errand : Option Errand) (s : InState) (turn : Bool) → errand_choice errand s turn ≡ Carried.Full → s ≡ InState.Clear
errand_clear None s turn e = drain_clear s turn e
errand_clear (Some (Errand.Write word)) s turn e = absurd (cc)
errand_clear (Some Errand.ReadStatus) s turn e = absurd (cc)

choice_clear_by : (duty : Option Duty) (passing : Option Passing) (s : InState) (turn paused : Bool) (held : Option Mail) → duty_choice duty passing s turn paused held ≡ Carried.Full → s ≡ InState.Clear
choice_clear_by None passing s turn paused held e = mails_clear passing s turn paused held e
choice_clear_by (Some duty) passing s turn paused held e = errand_clear (errand_of duty.stage) s turn e

pub choice_clear : (duty : Option Met) (passing : Option Passing) (s : InState) (turn paused : Bool) (held : Option Mail) → choice_of duty passing s turn paused held ≡ Carried.Full → s ≡ InState.Clear
choice_clear duty passing s turn paused held e = choice_clear_by (in_hand duty) passing s turn paused held e

-- A DATAGRAM OF AN OPEN SLAVE
request_is : (b : Bool) → IsRequest ((1 + 2 * bit_number b) ∷ [])
request_is true = inr refl
request_is false = inl refl

module _ (lens : ℕ → Lens) (station index : ℕ) (h : Halves Body) (due : Option Access) where
  write_open : (out : OutLink (Option Mail)) (held : Option Mail) → out.station ≡ station → Meant station Carried.Write h due (datagram_seen lens (write_gram index out held)) → IsOpenGram station (write_gram index out held)
  write_open out None o m = absurd (let (mail, e, held, x) = m.asks in cc)
  write_open out (Some mail) o m = record { counter = refl; to = record { command = inr refl; adp = o }; writes = λ e. inr (inl refl) }

  inward_open : (inn : InwardHalf) → in_station inn ≡ station → IsOpenGram station (inward_gram index inn)
  inward_open (Clear i) o = record { counter = refl; to = record { command = inl refl; adp = o }; writes = λ e. absurd (cc) }
  inward_open (Doubt i) o = record { counter = refl; to = record { command = inr refl; adp = o }; writes = λ e. inr (inr (refl, request_is (in_half_of (Doubt i)).bit)) }
  inward_open (Asked i) o = record { counter = refl; to = record { command = inl refl; adp = o }; writes = λ e. absurd (cc) }
  inward_open (Refetch i) o = record { counter = refl; to = record { command = inl refl; adp = o }; writes = λ e. absurd (cc) }

  control_open : (errand : Option Errand) → Meant station Carried.Control h due (datagram_seen lens (errand_gram station index errand)) → IsOpenGram station (errand_gram station index errand)
  control_open None m = absurd (let (t, g, e, u, x) = m.asks in cc)
  control_open (Some (Errand.Write word)) m = record { counter = refl; to = record { command = inr refl; adp = refl }; writes = λ e. inl refl }
  control_open (Some Errand.ReadStatus) m = record { counter = refl; to = record { command = inl refl; adp = refl }; writes = λ e. absurd (cc) }

  status_open : (errand : Option Errand) → Meant station Carried.Status h due (datagram_seen lens (errand_gram station index errand)) → IsOpenGram station (errand_gram station index errand)
  status_open None m = absurd (let (e, u, x) = m.asks in cc)
  status_open (Some (Errand.Write word)) m = record { counter = refl; to = record { command = inr refl; adp = refl }; writes = λ e. inl refl }
  status_open (Some Errand.ReadStatus) m = record { counter = refl; to = record { command = inl refl; adp = refl }; writes = λ e. absurd (cc) }

  duty_control : (duty : Option Duty) → Meant station Carried.Control h due (datagram_seen lens (duty_gram station index duty)) → IsOpenGram station (duty_gram station index duty)
  duty_control None m = control_open None m
  duty_control (Some duty) m = control_open (errand_of duty.stage) m

  duty_status : (duty : Option Duty) → Meant station Carried.Status h due (datagram_seen lens (duty_gram station index duty)) → IsOpenGram station (duty_gram station index duty)
  duty_status None m = status_open None m
  duty_status (Some duty) m = status_open (errand_of duty.stage) m

  pub visit_open : (out : OutLink (Option Mail)) (inn : InwardHalf) (duty : Option Met) (carried : Carried) → out.station ≡ station → in_station inn ≡ station →
      Meant station carried h due (datagram_seen lens (visit_gram station index out inn duty carried)) → IsOpenGram station (visit_gram station index out inn duty carried)
  visit_open out inn duty Carried.Nothing o i m = absurd m.asks
  visit_open out inn duty Carried.Write o i m = write_open out out.state o m
  visit_open out inn duty Carried.Inward o i m = inward_open inn i
  visit_open out inn duty Carried.Full o i m = record { counter = refl; to = record { command = inl refl; adp = refl }; writes = λ e. absurd (cc) }
  visit_open out inn duty Carried.Control o i m = duty_control (in_hand duty) m
  visit_open out inn duty Carried.Status o i m = duty_status (in_hand duty) m

-- THE DATAGRAM OF A VISIT is one of its slave, by how the master stands to it
pub gram_for : {Q : Type 0} (lens : ℕ → Lens) (recover index : ℕ) (shows : Side Body Q Reply → Account Q Reply → Type 0) (station place start : ℕ) (stand : Stand) (spare : ℕ) (out : OutLink (Option Mail)) (inn : InwardHalf) (duty : Option Met) (carried : Carried) (spot : Spot) (l : Life Body Q Reply) →
    StopLives lens recover shows station place start stand spare out.len (in_area_len inn) (record { spot = spot; life = l }) → out.station ≡ station → in_station inn ≡ station →
    StandMeant lens station index carried stand l (datagram_seen lens (stand_gram station index stand out inn duty carried)) → GramFor lens spot l.stand (stand_gram station index stand out inn duty carried)
gram_for lens recover index shows station place start (Stand.Opening up) spare out inn duty carried spot l v o i m =
    let s = v.shown.stood in
    let st = v.planned.stands.station_is in
    subst (λ z. GramFor lens spot z (stand_gram station index (Stand.Opening up) out inn duty carried)) (sym s.stand)
    (record {
      up = up;
      own = s.own;
      index = index;
      opening = refl;
      to = record {
        step = s.opening.step;
        station = s.opening.station;
        place = s.opening.place;
        out = v.planned.sized.0 ∙ sym v.planned.out_is ∙ ap (λ z. (lens z).out) st;
        back = v.planned.sized.1 ∙ sym v.planned.back_is ∙ ap (λ z. (lens z).back) st;
      };
      is = refl;
    })
gram_for lens recover index shows station place start Stand.Open spare out inn duty carried spot l v o i m =
    let s = v.shown.stood in
    subst (λ z. GramFor lens spot z (stand_gram station index Stand.Open out inn duty carried)) (sym s.0)
    (subst (λ z. IsOpenGram z (visit_gram station index out inn duty carried)) v.planned.stands.station_is (visit_open lens station index l.era.side.halves (duty_access l.era.account.hand) out inn duty carried o i m))
gram_for lens recover index shows station place start Stand.Gone spare out inn duty carried spot l v o i m = absurd m
