-- A frame that brings no mail leaves what a hand shows.
use Rattle.std.specs.Prelude.{◌≡◌, ℕ, Bool, true, false, List, [], ◌++◌, Option, Some, None, option_map, refl}
use Rattle.std.proofs.Common.{ap, sym, ◌∙◌, subst, append-nil}
use Rattle.foe_client.specs.of_exchange_model.Exchange.{Speech, plain}
use Rattle.foe_client.specs.of_exchange_model.Rows.{Row, row_heard, answer_after}
use Rattle.master_side.specs.of_link_mails.Body.{Body}
use Rattle.master_side.specs.of_master_duty.Reply.{Reply}
use Rattle.master_hand.specs.Spoken.{Asked, hand_speech}
use Rattle.master_hand.specs.Grips.{Going, Hearing, HasIt}
use Rattle.master_hand.specs.Talk.{Talking, IsOf, client_later, client_awaits}
use Rattle.master_hand.specs.Shown.{HandShows, Shows}
use Rattle.master_hand.specs.declared.course.Course.{Course}
use Rattle.master_hand.specs.declared.clients.Which.{Which}

-- where no reply is complete, none is by nothing
stays : {R : Type 0} (frame : ℕ) (answer : Option (R × ℕ)) (o : Option R) → (answer ≡ None → o ≡ None) → answer_after frame answer o ≡ answer
stays frame (Some a) o h = refl
stays frame None o h = ap (answer_after frame None) (h refl)

-- a row stays
row_stays : {M Q R : Type 0} (x : Speech M Q R) (Kind : Q → Type 0) (later : List M → List M) (awaits : List M → Option R) (b : Bool) (now : Option (Row M Q R)) (frame : ℕ) (g : Going x Kind later awaits b now) →
    row_heard x frame [] g.row ≡ g.row
row_stays x Kind later awaits b now frame g =
    let same = ap (λ hs. x.ends g.row.service (plain x.emission hs)) (append-nil g.row.heard) in
    let ended = ap (x.ends g.row.service) (sym (append-nil (plain x.emission g.row.heard))) ∙ g.talks.goes [] in
    let s = stays frame g.row.answer (x.ends g.row.service (plain x.emission (g.row.heard ++ []))) (λ n. same ∙ ended ∙ g.quiet n) in
    λ i. record g.row { heard = append-nil g.row.heard i; answer = s i }

going_stays : {M Q R : Type 0} (x : Speech M Q R) (Kind : Q → Type 0) (later : List M → List M) (awaits : List M → Option R) (b : Bool) (now : Option (Row M Q R)) (frame : ℕ) → Going x Kind later awaits b now →
    option_map (λ r. row_heard x frame [] r) now ≡ now
going_stays x Kind later awaits b now frame g =
    ap (option_map (λ r. row_heard x frame [] r)) g.is ∙ ap Some (row_stays x Kind later awaits b now frame g) ∙ sym g.is

-- of a row of which the replies alone are told
hearing_stays : {M Q R : Type 0} (x : Speech M Q R) (Kind : Q → Type 0) (awaits : List M → Option R) (b : Bool) (now : Option (Row M Q R)) (frame : ℕ) → Hearing x Kind awaits b now →
    option_map (λ r. row_heard x frame [] r) now ≡ now
hearing_stays x Kind awaits b now frame g =
    let same = ap (λ hs. x.ends g.row.service (plain x.emission hs)) (append-nil g.row.heard) in
    let ended = ap (x.ends g.row.service) (sym (append-nil (plain x.emission g.row.heard))) ∙ g.goes [] in
    let s = stays frame g.row.answer (x.ends g.row.service (plain x.emission (g.row.heard ++ []))) (λ n. same ∙ ended ∙ g.quiet n) in
    ap (option_map (λ r. row_heard x frame [] r)) g.is ∙ (λ i. Some (record g.row { heard = append-nil g.row.heard i; answer = s i })) ∙ sym g.is

-- one that has its reply keeps it
answer_kept : {R : Type 0} (frame : ℕ) (answer : Option (R × ℕ)) (a : R × ℕ) (o : Option R) → answer ≡ Some a → answer_after frame answer o ≡ Some a
answer_kept frame answer a o e = ap (λ z. answer_after frame z o) e

pub has_stays : {M Q R : Type 0} (x : Speech M Q R) (Kind : Q → Type 0) (reply : Option R) (now : Option (Row M Q R)) (frame : ℕ) (ms : List M) → HasIt Kind reply now → HasIt Kind reply (option_map (λ r. row_heard x frame ms r) now)
has_stays x Kind reply now frame ms g = record {
  row = row_heard x frame ms g.row;
  answer = g.answer;
  is = ap (option_map (λ r. row_heard x frame ms r)) g.is;
  kind = g.kind;
  answered = answer_kept frame g.row.answer g.answer (x.ends g.row.service (plain x.emission (g.row.heard ++ ms))) g.answered;
  kept = g.kept;
}

quiet_by : (course : Course) (which : Which) (c : Talking) (frame : ℕ) (now : Option (Row Body Asked Reply)) → HandShows course which c now → HandShows course which c (option_map (λ r. row_heard (hand_speech c.areas) frame [] r) now)
quiet_by Course.Nothing which c frame now h = ap (option_map (λ r. row_heard (hand_speech c.areas) frame [] r)) h
quiet_by Course.Goes which c frame now h =
    subst (λ n. HandShows Course.Goes which c n) (sym (going_stays (hand_speech c.areas) (IsOf which) (client_later which c) (client_awaits which c) false now frame h)) h
quiet_by Course.Answered which c frame now h =
    subst (λ n. HandShows Course.Answered which c n) (sym (going_stays (hand_speech c.areas) (IsOf which) (client_later which c) (client_awaits which c) true now frame h)) h
quiet_by Course.Mute which c frame now h =
    subst (λ n. HandShows Course.Mute which c n) (sym (hearing_stays (hand_speech c.areas) (IsOf which) (client_awaits which c) false now frame h)) h
quiet_by Course.Closed which c frame now h = has_stays (hand_speech c.areas) (IsOf which) (client_awaits which c []) now frame [] h
quiet_by Course.Astray which c frame now h =
    subst (λ n. HandShows Course.Astray which c n) (sym (hearing_stays (hand_speech c.areas) (IsOf which) (λ hs. None) false now frame h)) h

-- what a hand shows stays
pub quiet_shown : (course : Course) (which : Which) (c : Talking) (x : Speech Body Asked Reply) (frame : ℕ) (now : Option (Row Body Asked Reply)) → Shows course which c x now → Shows course which c x (option_map (λ r. row_heard x frame [] r) now)
quiet_shown course which c x frame now s =
    (s.0, subst (λ (y : Speech Body Asked Reply). HandShows course which c (option_map (λ r. row_heard y frame [] r) now)) (sym s.0) (quiet_by course which c frame now s.1))
