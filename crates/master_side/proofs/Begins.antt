-- A service that comes into hand.
use Rattle.std.proofs.Common.{◌≡◌, ℕ, List, [], ◌∷◌, ◌++◌, Bool, true, false, Option, Some, None, refl, sym, ap, ◌∙◌, subst, append-nil}
use Rattle.std.specs.Prelude.{◌&&◌, is_none, is_some, if◌then◌else◌, Ok}
use Rattle.frame_view.specs.of_exchange_model.Exchange.{Speech}
use Rattle.frame_view.specs.of_exchange_model.Rows.{Row, begun}
use Rattle.master_duty.specs.of_mailbox_mail.declared.mail.Mail.{Mail}
use Rattle.mailbox_master.specs.of_link_mails.Body.{Body, uncounted}
use Rattle.mailbox_master.specs.of_link_model.Mails.{LinkMail}
use Rattle.mailbox_master.specs.of_link_model.Master.{out_hold}
use Rattle.mailbox_master.specs.of_link_model.Link.{Halves}
use Rattle.master_duty.specs.of_segment_model.Seats
use Rattle.master_duty.specs.of_segment_model.Seats.{Side, next_mail, side_holds}
use Rattle.master_duty.specs.of_state_model.Stated.{Service}
use Rattle.master_duty.specs.of_state_model.Accounts
use Rattle.master_duty.specs.of_state_model.Accounts.{Account, is_free, is_acknowledged, mails_begin, account_begins, starts, state_begins}
use Rattle.mailbox_master.specs.declared.halves.InwardHalf.{InwardHalf}
use Rattle.mailbox_master.specs.Links.{OutLink}
use Rattle.mailbox_master.specs.Any.{in_half_of, out_held}
use Rattle.mailbox_master.specs.Seat.{seat_half}
use Rattle.master_duty.specs.declared.duty.Duty.{Duty}
use Rattle.master_duty.specs.declared.stage.Stage.{Stage}
use Rattle.master_duty.specs.declared.stage.Met.{Met}
use Rattle.master_duty.specs.Stages.{stage_of}
use Rattle.master_duty.specs.Reply.{Reply}
use Rattle.master_side.specs.Fits.{Tells}
use Rattle.master_side.specs.Carried.{in_hand}
use Rattle.master_side.specs.Shown.{SideShows, DutyShows, OverShows, Begins, Holds, Picked, wish_begun, started_by}
use Rattle.master_side.specs.declared.carried.Wish.{Wish}

-- none that is laid ready is a mail that is passed on, so what came into hand is none
pub none_passed : {Q : Type 0} (ready : Option Q) (began passes : Bool) (passed : Q → Bool) → began ≡ is_some ready → began ≡ true → ((q : Q) → ready ≡ Some q → passed q ≡ false) → ((q : Q) → ready ≡ Some q → passes ≡ passed q) → passes ≡ false
none_passed None began passes passed did e h k = absurd (let t = sym e ∙ did in cc)
none_passed (Some q) began passes passed did e h k = k q refl ∙ h q refl

module _ {Q : Type 0} (x : Speech Body Q Reply) (acknowledged : Q → Bool) where
  abbrev Rows : Type 0
  Rows = Option (Row Body Q Reply)

  idle_holding : (o : Option Mail) → is_none o ≡ true → (seat_half (record { station = 0; len = 0; last = 0; state = o })).holding ≡ None
  idle_holding None e = refl
  idle_holding (Some m) e = absurd (cc)

  seat_idle : (out : OutLink (Option Mail)) → is_none out.state ≡ true → (seat_half out).holding ≡ None
  seat_idle out e = idle_holding out.state e

  -- what an idle half says of the model's side
  pub side_idle : (shows : Rows → Type 0) (out : OutLink (Option Mail)) (inn : InwardHalf) (fresh : Bool) (duty : Option Met) (d : Side Body Q Reply) (a : Account Q Reply) (idle : Bool) →
      idle ≡ is_none out.state → SideShows shows out inn fresh duty d a → idle ≡ true → d.halves.out.holding ≡ None
  side_idle shows out inn fresh duty d a idle e s t = ap (λ (h : Halves Body). h.out.holding) s.halves ∙ seat_idle out (sym e ∙ t)

  no_duty : (duty : Option Duty) (hand : Option Accounts.Duty) → duty ≡ None → DutyShows duty hand → hand ≡ None
  no_duty duty hand e s = subst (λ (o : Option Duty). DutyShows o hand) e s

  -- no service does
  pub begins_none : (made : ℕ) (d : Side Body Q Reply) (a : Account Q Reply) (shows : Side Body Q Reply → Account Q Reply → Type 0) → shows d a → Begins x acknowledged made d a None shows
  begins_none made d a shows s = record { shown = s; took = sym (append-nil a.started) }

  -- a service by mails
  pub begins_mails : (made : ℕ) (d : Side Body Q Reply) (a : Account Q Reply) (shows new : Rows → Type 0) (out : OutLink (Option Mail)) (inn : InwardHalf) (fresh : Bool) (duty : Option Met) (q : Q) →
      SideShows shows out inn fresh duty d a → in_hand duty ≡ None → x.valid q ≡ true → is_free x d d.now ≡ true → ((frame : ℕ) → new (Some (begun q frame))) →
      Begins x acknowledged made d a (Some (Service.Mails q)) (λ e b. SideShows new out inn fresh duty e b)
  begins_mails made d a shows new out inn fresh duty q s n v free began = record {
    shown = subst (λ (h : Option Accounts.Duty). SideShows new out inn fresh duty (Seats.side_begins x made d d.now (mails_begin h (Some (Service.Mails q)))) (account_begins x acknowledged made d a h (Some (Service.Mails q))))
        (sym (no_duty (in_hand duty) a.hand n s.state)) (side d.now free);
    took = subst (λ (h : Option Accounts.Duty). (account_begins x acknowledged made d a h (Some (Service.Mails q))).started ≡ a.started ++ started_by made (Some (Service.Mails q))) (sym (no_duty (in_hand duty) a.hand n s.state))
        (ap (λ (b : Bool). (if b then record a { started = starts a (Service.Mails q) made } else a).started) (λ i. v i && free i));
  }
    where
      account : (b : Bool) → DutyShows (in_hand duty) (if b then record a { started = starts a (Service.Mails q) made } else a).hand
      account true = s.state
      account false = s.state

      changes : (b : Bool) → OverShows duty (if b then record a { started = starts a (Service.Mails q) made } else a).over
      changes true = s.over
      changes false = s.over

      side : (now : Rows) → is_free x d now ≡ true → SideShows new out inn fresh duty (Seats.side_begins x made d now (Some q)) (account_begins x acknowledged made d a None (Some (Service.Mails q)))
      side None f = subst (λ (b : Bool). SideShows new out inn fresh duty (if b then record d { now = Some (begun q made) } else d) (account_begins x acknowledged made d a None (Some (Service.Mails q)))) (sym v)
          (record { halves = s.halves; unsent = s.unsent; row = began made; state = account (x.valid q && is_free x d d.now); over = changes (x.valid q && is_free x d d.now) })
      side (Some r) f = subst (λ (b : Bool). SideShows new out inn fresh duty (if b then record d { past = d.past ++ r ∷ []; now = Some (begun q made) } else d) (account_begins x acknowledged made d a None (Some (Service.Mails q)))) (λ i. (sym v) i && (sym f) i)
          (record { halves = s.halves; unsent = s.unsent; row = began made; state = account (x.valid q && is_free x d d.now); over = changes (x.valid q && is_free x d d.now) })

  -- one that was laid ready, or none
  pub begins_ready : (made : ℕ) (d : Side Body Q Reply) (a : Account Q Reply) (shows new : Rows → Type 0) (out : OutLink (Option Mail)) (inn : InwardHalf) (fresh : Bool) (duty : Option Met) (ready : Option Q) (began : Bool) → began ≡ is_some ready →
      SideShows shows out inn fresh duty d a → in_hand duty ≡ None → is_free x d d.now ≡ true → ((now : Rows) (q : Q) (frame : ℕ) → shows now → ready ≡ Some q → (x.valid q ≡ true) × new (Some (begun q frame))) → ((now : Rows) → shows now → ready ≡ None → new now) →
      Begins x acknowledged made d a (wish_begun began (Some Wish.Mails) ready) (λ e b. SideShows new out inn fresh duty e b)
  begins_ready made d a shows new out inn fresh duty ready began did s n free some none =
      subst (λ (w : Option (Service Q)). Begins x acknowledged made d a w (λ e b. SideShows new out inn fresh duty e b)) (ap (λ b. wish_begun b (Some Wish.Mails) ready) (sym did)) (go ready refl)
    where
      go : (o : Option Q) → ready ≡ o → Begins x acknowledged made d a (wish_begun (is_some o) (Some Wish.Mails) o) (λ e b. SideShows new out inn fresh duty e b)
      go None e = begins_none made d a (λ e b. SideShows new out inn fresh duty e b) (record { halves = s.halves; unsent = s.unsent; row = none d.now s.row e; state = s.state; over = s.over })
      go (Some q) e = begins_mails made d a shows new out inn fresh duty q s n (some d.now q 0 s.row e).0 free (λ frame. (some d.now q frame s.row e).1)

  -- a state service
  pub begins_state : (made : ℕ) (d : Side Body Q Reply) (a : Account Q Reply) (shows : Rows → Type 0) (out : OutLink (Option Mail)) (inn : InwardHalf) (fresh : Bool) (duty : Option Met) (new : Duty) (target : ℕ) →
      SideShows shows out inn fresh duty d a → in_hand duty ≡ None → is_free x d d.now ≡ true → is_acknowledged x acknowledged d d.now ≡ true → new.target ≡ target → new.stage ≡ Stage.Drain →
      Begins x acknowledged made d a (Some (Service.State target)) (λ e b. SideShows shows out inn fresh (Some (Met.On new)) e b)
  begins_state made d a shows out inn fresh duty new target s n free known to stage = record {
    shown = subst (λ (h : Option Accounts.Duty). SideShows shows out inn fresh (Some (Met.On new)) (Seats.side_begins x made d d.now (mails_begin h (Some (Service.State target)))) (account_begins x acknowledged made d a h (Some (Service.State target))))
        (sym (no_duty (in_hand duty) a.hand n s.state))
        (subst (λ (b : Bool). SideShows shows out inn fresh (Some (Met.On new)) d (if b then state_begins a target made else a)) (λ i. (sym free) i && (sym known) i)
        (record { halves = s.halves; unsent = s.unsent; row = s.row; state = (made, λ j. Some (record { target = (sym to) j; frame = made; stage = stage_of ((sym stage) j) })); over = tt }));
    took = subst (λ (h : Option Accounts.Duty). (account_begins x acknowledged made d a h (Some (Service.State target))).started ≡ a.started ++ started_by made (Some (Service.State target))) (sym (no_duty (in_hand duty) a.hand n s.state))
        (ap (λ (b : Bool). (if b then state_begins a target made else a).started) (λ i. free i && known i));
  }

  -- none is held
  pub holds_none : (d : Side Body Q Reply) (shows : Side Body Q Reply → Type 0) → shows d → Holds x d shows
  holds_none d shows s = record { hold = false; shown = subst (λ (ms : List Body). shows (side_holds d ms)) (sym (stays d.now)) s }
    where
      stays : (now : Rows) → next_mail x now d.halves.out.holding false ≡ []
      stays None = refl
      stays (Some r) = refl

  -- the mail that was taken is
  pub holds_next : (shows new : Rows → Type 0) (out out' : OutLink (Option Mail)) (inn : InwardHalf) (fresh : Bool) (duty : Option Met) (m : Mail) (body : Body) (d : Side Body Q Reply) (a : Account Q Reply) →
      SideShows shows out inn fresh duty d a → is_none out.state ≡ true → Tells true m x d.now new → body ≡ Ok (uncounted m) → seat_half out' ≡ out_held (seat_half out) (seat_half out).holding body →
      Holds x d (λ e. SideShows new out' inn true duty e a)
  holds_next shows new out out' inn fresh duty m body d a s e t b h = record {
    hold = true;
    shown = subst (λ (ms : List Body). SideShows new out' inn true duty (side_holds d ms) a) (sym next)
        (record {
          halves = ap (λ (z : Halves Body). record { out = out_hold z.out (Ok (uncounted m)); inn = z.inn }) s.halves
              ∙ (λ i. record { out = held i; inn = in_half_of inn });
          unsent = refl;
          row = t.1;
          state = s.state;
          over = s.over;
        });
  }
    where
      idle : d.halves.out.holding ≡ None
      idle = ap (λ (z : Halves Body). z.out.holding) s.halves ∙ seat_idle out e

      next : next_mail x d.now d.halves.out.holding true ≡ Ok (uncounted m) ∷ []
      next = ap (λ (o : Option (LinkMail Body)). next_mail x d.now o true) idle ∙ t.0

      held : out_hold (seat_half out) (Ok (uncounted m)) ≡ seat_half out'
      held = ap (out_hold (seat_half out)) (sym b) ∙ sym (ap (λ (o : Option (LinkMail Body)). out_held (seat_half out) o body) (seat_idle out e)) ∙ sym h

  -- both steps are one choice
  pub picked : (made : ℕ) (d : Side Body Q Reply) (a : Account Q Reply) (begin : Option (Service Q)) (shows new : Side Body Q Reply → Account Q Reply → Type 0) →
      Begins x acknowledged made d a begin shows → ((e : Side Body Q Reply) (b : Account Q Reply) → shows e b → Holds x e (λ f. new f b)) → Picked x acknowledged made d a begin new
  picked made d a begin shows new b holds =
      let h = holds (Seats.side_begins x made d d.now (mails_begin a.hand begin)) (account_begins x acknowledged made d a a.hand begin) b.shown in
      record { hold = h.hold; shown = h.shown; took = b.took }
