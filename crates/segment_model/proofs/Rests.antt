-- With nothing left, the server of each slave has carried out all its rows, and all emissions were heard.
use Rattle.std.proofs.Common.{◌≡◌, ◌≢◌, inl, inr, ℕ, ◌==◌, ◌&&◌, Bool, true, false, not, Option, Some, None, List, [], ◌∷◌, ◌++◌, refl, ap, sym, ◌∙◌, subst, arith, append-nil, if◌then◌else◌, eqb-true}
use Rattle.std.proofs.lemmas.Bool.Decides.{nat_tests}
use Rattle.exchange_model.specs.Exchange.{Exchange, IsLawful, after, given}
use Rattle.exchange_model.specs.Rows.{Row, Rest}
use Rattle.exchange_model.proofs.Moments
use Rattle.link_model.specs.Mails.{LinkMail, news, seen, counter_in, bodies}
use Rattle.link_model.specs.Master.{InState}
use Rattle.link_model.specs.Link.{Link}
use Rattle.link_model.specs.Agree.{Agrees, Knows, last_met_of, unread}
use Rattle.segment_model.specs.Slaves.{Serving}
use Rattle.segment_model.specs.Record.{Frame}
use Rattle.segment_model.specs.Laws.{EachSeat, NothingInHand, SeatRests}
use Rattle.segment_model.specs.Seats.{Seat, link_of, newest, rows_of}
use Rattle.segment_model.proofs.Links.{Sound}
use Rattle.segment_model.proofs.Sounds.{SeatSound}
use Rattle.segment_model.proofs.Fitted.{NowFits, Fitted, IsReady, nothing_taken, nothing_accepted}
use Rattle.segment_model.proofs.Overs.{over_parts}
use Rattle.segment_model.proofs.Kept.{Records}

equal_self : (n : ℕ) → (n == n) ≡ true
equal_self n = grind (arith, nat_tests)

-- nothing is read that was not accepted
pub all_news : {M : Type 0} (last : ℕ) (mail : Option (LinkMail M)) → last ≡ counter_in mail → ((m : LinkMail M) → mail ≡ Some m → m.counter ≢ 0) → news last mail ≡ []
all_news last None e n = refl
all_news {M} last (Some m) e n = go (m.counter == 0) (m.counter == last) refl (ap (λ k. m.counter == k) e ∙ equal_self m.counter)
  where
    go : (z l : Bool) → (m.counter == 0) ≡ z → l ≡ true → (if not z && l then [] else m.body ∷ []) ≡ []
    go true l e f = absurd (n m refl (eqb-true m.counter 0 e))
    go false true e f = refl
    go false false e f = absurd (cc)

none_unread : {M : Type 0} (again : Bool) (box : Option (LinkMail M)) → box ≡ None → bodies (unread again box) ≡ []
none_unread true box e = refl
none_unread false box e = ap bodies e

-- with an empty mailbox 0 and an idle half all mails held are taken
pub all_taken : {M S : Type 0} (w : Link M S) → Agrees w → w.node.out.box ≡ None → w.halves.out.holding ≡ None → w.taken ≡ w.held
all_taken w a box idle =
    sym (a.out.stream
    ∙ ap (λ b. w.taken ++ (news w.node.out.last_taken b ++ news (seen w.node.out.last_taken b) w.halves.out.holding)) box
    ∙ ap (λ h. w.taken ++ news w.node.out.last_taken h) idle ∙ append-nil w.taken)

-- and with an empty mailbox 1 and a clear half all mails offered are accepted, where none is withdrawn
pub all_offered : {M S : Type 0} (w : Link M S) → Agrees w → w.halves.inn.state ≡ InState.Clear → w.node.inn.box ≡ None → w.node.inn.withdrawn ≡ None → w.offered ≡ w.accepted
all_offered w a clear box withdrawn =
    let i = a.inn in
    let last = last_met_of w.node.inn in
    let knows = subst (λ st. Knows st w.halves.inn w.node.inn) clear i.knows in
    let one = all_news w.halves.inn.last last knows.0 i.read.counted in
    let two = none_unread w.node.inn.again w.node.inn.box box in
    let three : bodies w.node.inn.withdrawn ≡ [] = ap bodies withdrawn in
    i.stream ∙ ap (λ l. w.accepted ++ (l ++ (bodies (unread w.node.inn.again w.node.inn.box) ++ bodies w.node.inn.withdrawn))) one
    ∙ ap (λ l. w.accepted ++ (l ++ bodies w.node.inn.withdrawn)) two ∙ ap (λ l. w.accepted ++ l) three ∙ append-nil w.accepted

module _ {V A M Q R : Type 0} (x : Exchange V A M Q R) (law : IsLawful x) where
  all_heard : (v : V) (w : Link M (Serving V M)) → Sound x v w → w.halves.inn.state ≡ InState.Clear → w.node.inn.box ≡ None → w.node.inn.withdrawn ≡ None → w.node.server.waiting ≡ [] → w.accepted ≡ given x.serve v w.taken
  all_heard v w s clear box withdrawn waiting =
      sym (all_offered w s.agrees clear box withdrawn) ∙ sym (append-nil w.offered) ∙ ap (λ l. w.offered ++ l) (sym waiting) ∙ s.serves.gave

  rests : (fs : List (Frame M)) (s : Seat V M Q R) → IsReady x law s → SeatSound x s → Fitted x law s → Records x law fs s → SeatRests x fs s
  rests fs s r h f k settled wants = subst (Rest x s.start (rows_of s.side) s.slave.node.server.server) k.hears (go s.side.now f wants.nothing)
    where
      taken : s.taken ≡ s.held
      taken = all_taken (link_of s) h.agrees settled.first wants.idle

      accepted : s.accepted ≡ given x.serve s.start s.taken
      accepted = all_heard s.start (link_of s) h wants.clear settled.second settled.withdrawn settled.waiting

      served : after x.serve s.start s.taken ≡ s.slave.node.server.server
      served = sym h.serves.server

      go : (now : Option (Row M Q R)) → NowFits x law s.start s.side.past now s.held s.taken s.accepted → NothingInHand x.speech s.side now → Rest x s.start (s.side.past ++ newest now) s.slave.node.server.server s.accepted
      go None k n =
          let none = nothing_taken x law s.start (link_of s) h k.1 in
          let nothing = nothing_accepted x law s.start (link_of s) h k.1 in
          let start : s.start ≡ s.slave.node.server.server = sym (ap (after x.serve s.start) none) ∙ served in
          let new : Rest x s.start [] s.start [] = record { handled = omega arith; app = refl; emissions = refl } in
          subst (λ rs. Rest x s.start rs s.slave.node.server.server s.accepted) (sym (ap (λ l. l ++ []) k.0))
          (subst (λ l. Rest x s.start [] s.slave.node.server.server l) (sym nothing) (subst (λ w. Rest x s.start [] w []) start new))
      go (Some n) k o =
          let parts = over_parts x s.side.halves.out.holding s.side.fresh n o in
          let all : Rest x s.start (k.front ++ k.last ++ n ∷ []) (after x.serve s.start s.taken) s.accepted = elim parts.1 [
            | inl h ↦ Moments.rest_handed x law s.start r k.front k.last n s.held s.taken s.accepted k.moment h.0 parts.0 taken accepted
            | inr a ↦ Moments.rest_answered x law s.start r k.front k.last n s.held s.taken s.accepted k.moment a.0.0 a.0.1 parts.0 taken accepted
          ] in
          subst (λ w. Rest x s.start (s.side.past ++ n ∷ []) w s.accepted) served (subst (λ l. Rest x s.start (l ++ n ∷ []) (after x.serve s.start s.taken) s.accepted) (sym k.split) all)

  pub each_rests : (fs : List (Frame M)) (ss : List (Seat V M Q R)) → EachSeat (IsReady x law) ss → EachSeat (SeatSound x) ss → EachSeat (Fitted x law) ss → EachSeat (Records x law fs) ss → EachSeat (SeatRests x fs) ss
  each_rests fs [] r h f k = tt
  each_rests fs (s ∷ ss) r h f k = (rests fs s r.0 h.0 f.0 k.0, each_rests fs ss r.1 h.1 f.1 k.1)
