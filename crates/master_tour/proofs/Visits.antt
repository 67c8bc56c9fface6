-- A slave's visit: a choice, and its datagram.
use Rattle.std.proofs.Common.{◌≡◌, ℕ, Bool, Option, ◌++◌, sym, subst, ◌∙◌, append-nil, ap, refl}
use Rattle.master_side.specs.of_link_mails.Body.{Body}
use Rattle.master_side.specs.of_link_model.Link.{Halves}
use Rattle.master_side.specs.of_mailbox_mail.declared.mail.Mail.{Mail}
use Rattle.master_side.specs.of_exchange_model.Exchange.{Speech}
use Rattle.master_side.specs.of_exchange_model.Rows.{Row}
use Rattle.master_side.specs.of_segment_model.Slaves.{Access}
use Rattle.master_side.specs.of_segment_model.Seats.{Side, side_next}
use Rattle.master_side.specs.of_state_model.Accounts.{Account, Pick, mails_choice, account_next}
use Rattle.master_side.specs.of_frame_view.View.{Lens, datagram_seen}
use Rattle.master_side.specs.of_mailbox_master.declared.halves.InwardHalf.{InwardHalf}
use Rattle.master_side.specs.of_mailbox_master.Links.{OutLink}
use Rattle.master_side.specs.of_mailbox_master.Any.{in_half_of}
use Rattle.master_side.specs.of_mailbox_master.Seat.{seat_half}
use Rattle.master_side.specs.of_master_duty.declared.stage.Met.{Met}
use Rattle.master_side.specs.of_master_duty.Reply.{Reply}
use Rattle.master_side.specs.declared.carried.Carried.{Carried}
use Rattle.master_side.specs.Carried.{Meant, in_hand}
use Rattle.master_side.specs.Sent.{SameSide, visit_gram}
use Rattle.master_side.specs.Shown.{SideShows, DutyShows, OverShows, Picked, Holds, started_by}
use Rattle.std.specs.Prelude.{Some, None, true, false, is_some}
use Rattle.master_side.specs.of_segment_model.Ends.{Passing}
use Rattle.master_side.specs.of_life_model.Lives
use Rattle.master_side.specs.of_life_model.Lives.{Life, Era, era_next, granted, life_next}
use Rattle.master_side.specs.of_state_model.Stated.{Service}
use Rattle.master_tour.specs.Stands.{NextShows, HoldShows, Counts, is_open}

pub picked_map : {Q : Type 0} (x : Speech Body Q Reply) (acknowledged : Q → Bool) (made : ℕ) (d : Side Body Q Reply) (a : Account Q Reply) (begin : Option (Service Q)) (X Y : Side Body Q Reply → Account Q Reply → Type 0) →
    Picked x acknowledged made d a begin X → ((e : Side Body Q Reply) (b : Account Q Reply) → X e b → Y e b) → Picked x acknowledged made d a begin Y
picked_map x acknowledged made d a begin X Y p h = record { hold = p.hold; shown = h _ _ p.shown; took = p.took }

pub same_shown : {Q : Type 0} (shows new : Option (Row Body Q Reply) → Type 0) (out out' : OutLink (Option Mail)) (inn inn' : InwardHalf) (fresh fresh' : Bool) (duty duty' : Option Met) (d : Side Body Q Reply) (a : Account Q Reply) →
    SameSide out inn fresh duty out' inn' fresh' duty' → ((now : Option (Row Body Q Reply)) → shows now → new now) → SideShows shows out inn fresh duty d a → SideShows new out' inn' fresh' duty' d a
same_shown shows new out out' inn inn' fresh fresh' duty duty' d a k h s = record {
  halves = s.halves ∙ (λ j. record { out = seat_half ((sym k.out_is) j); inn = in_half_of ((sym k.in_is) j) });
  unsent = s.unsent ∙ sym k.fresh_is;
  row = h d.now s.row;
  state = subst (λ (z : Option Met). DutyShows (in_hand z) a.hand) (sym k.duty_is) s.state;
  over = subst (λ (z : Option Met). OverShows z a.over) (sym k.duty_is) s.over;
}

pub same_meant : (lens : ℕ → Lens) (index : ℕ) (out out' : OutLink (Option Mail)) (inn inn' : InwardHalf) (fresh fresh' : Bool) (duty duty' : Option Met) (station station' first : ℕ) (carried : Carried) (h : Halves Body) (due : Option Access) →
    SameSide out inn fresh duty out' inn' fresh' duty' → station' ≡ station → station ≡ first → Meant station carried h due (datagram_seen lens (visit_gram station index out inn duty carried)) → Meant first carried h due (datagram_seen lens (visit_gram station' index out' inn' duty' carried))
same_meant lens index out out' inn inn' fresh fresh' duty duty' station station' first carried h due k s t m =
    subst (λ n. Meant n carried h due (datagram_seen lens (visit_gram station' index out' inn' duty' carried))) t
    (subst (λ r. Meant station carried h due (datagram_seen lens r)) (λ i. visit_gram ((sym s) i) index ((sym k.out_is) i) ((sym k.in_is) i) ((sym k.duty_is) i) carried) m)

pub holds_map : {Q : Type 0} (x : Speech Body Q Reply) (d : Side Body Q Reply) (X Y : Side Body Q Reply → Type 0) → Holds x d X → ((e : Side Body Q Reply) → X e → Y e) → Holds x d Y
holds_map x d X Y p h = record { hold = p.hold; shown = h _ p.shown }

-- an account that counts nothing is as it was
counts_still : {Q : Type 0} (made : ℕ) (begin : Option (Service Q)) (a : Account Q Reply) → begin ≡ None → a.started ≡ a.started ++ started_by made begin
counts_still made begin a b = sym (ap (λ z. a.started ++ started_by made z) b ∙ append-nil a.started)

-- an opening, or a slave that is gone, has no choice
pub still_next : {Q : Type 0} (x : Speech Body Q Reply) (acknowledged : Q → Bool) (more : Body → Bool) (passed : Q → Bool) (made : ℕ) (l : Life Body Q Reply) (begin : Option (Service Q)) (P : Life Body Q Reply → Type 0) → begin ≡ None → is_open l.stand ≡ false → P l → NextShows x acknowledged more passed made l begin P
still_next {Q} x acknowledged more passed made l begin P b s p = record { hold = false; shown = go l.stand s; took = count l.stand s }
  where
    pick : Pick Q
    pick = record { begin = begin; hold = false }

    go : (z : Lives.Stand) → is_open z ≡ false → P (life_next x acknowledged more passed made l z pick)
    go (Lives.Stand.Opens o) e = p
    go Lives.Stand.Open e = absurd (cc)
    go Lives.Stand.Gone e = p

    count : (z : Lives.Stand) → is_open z ≡ false → Counts made begin l (life_next x acknowledged more passed made l z pick)
    count (Lives.Stand.Opens o) e = counts_still made begin l.era.account b
    count Lives.Stand.Open e = absurd (cc)
    count Lives.Stand.Gone e = counts_still made begin l.era.account b

-- an open slave goes on by a choice; while a mail that is passed on isn't over, none begins
pub open_next : {Q : Type 0} (x : Speech Body Q Reply) (acknowledged : Q → Bool) (more : Body → Bool) (passed : Q → Bool) (made : ℕ) (l : Life Body Q Reply) (waits : Bool) (begin : Option (Service Q)) (R : Side Body Q Reply → Account Q Reply → Type 0) (P : Life Body Q Reply → Type 0) → l.stand ≡ Lives.Stand.Open →
    is_some l.era.passing ≡ waits → (waits ≡ true → begin ≡ None) → Picked x acknowledged made l.era.side l.era.account begin R → (waits ≡ true → Holds x l.era.side (λ e. R e l.era.account)) → ((era : Era Body Q Reply) → R era.side era.account → P (record l { era = era })) → NextShows x acknowledged more passed made l begin P
open_next {Q} x acknowledged more passed made l waits begin R P o w n k h f = go l.era.passing refl
  where
    go : (p : Option Passing) → l.era.passing ≡ p → NextShows x acknowledged more passed made l begin P
    go None e =
        let pick : Pick Q = record { begin = begin; hold = k.hold } in
        record {
          hold = k.hold;
          shown = subst (λ z. P (life_next x acknowledged more passed made l z pick)) (sym o) (f (era_next x acknowledged more passed made l.era pick)
              (subst (λ (z : Option Passing). R (side_next x made l.era.side (mails_choice l.era.account (granted z pick))) (account_next x acknowledged made l.era.side l.era.account (granted z pick))) (sym e) k.shown));
          took = subst (λ z. Counts made begin l (life_next x acknowledged more passed made l z pick)) (sym o)
              (subst (λ (z : Option Passing). (account_next x acknowledged made l.era.side l.era.account (granted z pick)).started ≡ l.era.account.started ++ started_by made begin) (sym e) k.took);
        }
    go (Some p) e =
        let t : waits ≡ true = sym w ∙ ap is_some e in
        let pick : Pick Q = record { begin = begin; hold = (h t).hold } in
        record {
          hold = (h t).hold;
          shown = subst (λ z. P (life_next x acknowledged more passed made l z pick)) (sym o) (f (era_next x acknowledged more passed made l.era pick)
              (subst (λ (z : Option Passing). R (side_next x made l.era.side (mails_choice l.era.account (granted z pick))) (account_next x acknowledged made l.era.side l.era.account (granted z pick))) (sym e) (h t).shown));
          took = subst (λ z. Counts made begin l (life_next x acknowledged more passed made l z pick)) (sym o)
              (subst (λ (z : Option Passing). (account_next x acknowledged made l.era.side l.era.account (granted z pick)).started ≡ l.era.account.started ++ started_by made begin) (sym e) (counts_still made begin l.era.account (n t)));
        }

-- the same where no service begins
pub still_hold : {Q : Type 0} (x : Speech Body Q Reply) (acknowledged : Q → Bool) (more : Body → Bool) (passed : Q → Bool) (made : ℕ) (l : Life Body Q Reply) (P : Life Body Q Reply → Type 0) → is_open l.stand ≡ false → P l → HoldShows x acknowledged more passed made l P
still_hold {Q} x acknowledged more passed made l P s p = record { hold = false; shown = go l.stand s }
  where
    go : (z : Lives.Stand) → is_open z ≡ false → P (life_next x acknowledged more passed made l z (record { begin = None; hold = false }))
    go (Lives.Stand.Opens o) e = p
    go Lives.Stand.Open e = absurd (cc)
    go Lives.Stand.Gone e = p

pub open_hold : {Q : Type 0} (x : Speech Body Q Reply) (acknowledged : Q → Bool) (more : Body → Bool) (passed : Q → Bool) (made : ℕ) (l : Life Body Q Reply) (R : Side Body Q Reply → Account Q Reply → Type 0) (P : Life Body Q Reply → Type 0) → l.stand ≡ Lives.Stand.Open →
    Holds x l.era.side (λ e. R e l.era.account) → ((era : Era Body Q Reply) → R era.side era.account → P (record l { era = era })) → HoldShows x acknowledged more passed made l P
open_hold {Q} x acknowledged more passed made l R P o h f = record {
  hold = h.hold;
  shown = subst (λ z. P (life_next x acknowledged more passed made l z pick)) (sym o) (f (era_next x acknowledged more passed made l.era pick) (go l.era.passing));
}
  where
    pick : Pick Q
    pick = record { begin = None; hold = h.hold }

    go : (p : Option Passing) → R (side_next x made l.era.side (mails_choice l.era.account (granted p pick))) (account_next x acknowledged made l.era.side l.era.account (granted p pick))
    go None = h.shown
    go (Some p) = h.shown
