-- The drain: with the newest row over and mailbox 0 empty, the server has carried out all rows.
use Rattle.std.proofs.Common.{◌≡◌, ◌⊎◌, inl, inr, ℕ, suc, ◌+◌, ◌<◌, ◌&&◌, Bool, true, false, not, is_none, is_some, if◌then◌else◌, Option, Some, None, List, [], ◌∷◌, ◌++◌, length, refl, ap, sym, ◌∙◌, arith, append-nil, length-append, ◌≤◌}
use Rattle.segment_model.specs.of_exchange_model.Exchange.{Exchange, IsLawful, after}
use Rattle.segment_model.specs.of_exchange_model.Rows.{Row, Fits, begun, InDone, told_all, left}
use Rattle.segment_model.specs.of_exchange_model.Laws.{Moment}
use Rattle.segment_model.proofs.of_exchange_model.Moments
use Rattle.segment_model.proofs.of_exchange_model.Steps.{handed_whole}
use Rattle.segment_model.proofs.of_exchange_model.Settles.{settled_more, settled_handled, told_all_last}
use Rattle.segment_model.proofs.of_exchange_model.Words.{after-append, grows_all}
use Rattle.segment_model.specs.of_link_model.Mails.{LinkMail, news, seen, is_repeat}
use Rattle.segment_model.specs.of_link_model.Link.{Link}
use Rattle.segment_model.specs.of_link_model.Agree.{Agrees}
use Rattle.segment_model.specs.Slaves.{Slave, Datagram, Access, Found, is_meant, datagram_meets, found_met}
use Rattle.segment_model.specs.Seats.{is_over, is_none_left}

-- with an empty mailbox 0 and an idle half, all mails held are taken
all_taken : {M S : Type 0} (w : Link M S) → Agrees w → w.node.out.box ≡ None → w.halves.out.holding ≡ None → w.taken ≡ w.held
all_taken w s box idle =
    sym (s.out.stream
    ∙ ap (λ b. w.taken ++ (news w.node.out.last_taken b ++ news (seen w.node.out.last_taken b) w.halves.out.holding)) box
    ∙ ap (λ h. w.taken ++ news w.node.out.last_taken h) idle ∙ append-nil w.taken)

-- with an idle half at most one mail is on its way
idle_few : {M S : Type 0} (w : Link M S) → Agrees w → w.halves.out.holding ≡ None → length w.held ≤ length w.taken + 1
idle_few {M} w s idle =
    let box = news w.node.out.last_taken w.node.out.box in
    let stream : w.held ≡ w.taken ++ box = s.out.stream ∙ ap (λ h. w.taken ++ (box ++ news (seen w.node.out.last_taken w.node.out.box) h)) idle ∙ ap (λ l. w.taken ++ l) (append-nil box) in
    let all = ap length stream in
    let both = length-append w.taken box in
    let one = one_news w.node.out.last_taken w.node.out.box in
    omega (arith, all, both, one)
  where
    one_news : (last : ℕ) (box : Option (LinkMail M)) → length (news last box) ≤ 1
    one_news last None = omega arith
    one_news last (Some m) = go (is_repeat last m)
      where
        go : (b : Bool) → length (if b then [] else m.body ∷ []) ≤ 1
        go true = omega arith
        go false = omega arith

-- an answered row at the end is below the count
in_done_last : {M Q R : Type 0} (count number : ℕ) (rs : List (Row M Q R)) (r : Row M Q R) → InDone count number (rs ++ r ∷ []) → (answer : R × ℕ) → r.answer ≡ Some answer → number + length rs < count
in_done_last count number [] r all answer e = let below = all.0 answer e in omega (arith, below)
in_done_last count number (s ∷ rs) r all answer e = let below = in_done_last count (suc number) rs r all.1 answer e in omega (arith, below)

-- nothing is left of a row that is over, and it ends with its last write, which is done, or it has its answer
over_parts : {V A M Q R : Type 0} (x : Exchange V A M Q R) (holding : Option (LinkMail M)) (fresh : Bool) (r : Row M Q R) → is_over x.speech holding fresh r ≡ true →
    (left x.speech r ≡ []) × (((x.speech.handed r.service ≡ true) × (holding ≡ None)) ⊎ ((a : R × ℕ) × (r.answer ≡ Some a)))
over_parts {M = M} {R = R} x holding fresh r e = (parts.0, go (x.speech.handed r.service) (is_none r.answer) refl parts.1)
  where
    empty : (ms : List M) (b : Bool) → is_none_left ms && b ≡ true → (ms ≡ []) × (b ≡ true)
    empty [] b e = (refl, e)
    empty (m ∷ ms) b e = absurd (cc)

    idle : (holding : Option (LinkMail M)) → is_none holding ≡ true → holding ≡ None
    idle None e = refl
    idle (Some m) e = absurd (cc)

    has : (answer : Option (R × ℕ)) → is_some answer && not fresh ≡ true → (a : R × ℕ) × (answer ≡ Some a)
    has None e = absurd (cc)
    has (Some a) e = (a, refl)

    parts : (left x.speech r ≡ []) × ((if x.speech.handed r.service && is_none r.answer then is_none holding else is_some r.answer && not fresh) ≡ true)
    parts = empty (left x.speech r) (if x.speech.handed r.service && is_none r.answer then is_none holding else is_some r.answer && not fresh) e

    go : (handed unanswered : Bool) → x.speech.handed r.service ≡ handed → (if handed && unanswered then is_none holding else is_some r.answer && not fresh) ≡ true →
        ((x.speech.handed r.service ≡ true) × (holding ≡ None)) ⊎ ((a : R × ℕ) × (r.answer ≡ Some a))
    go true true h f = inl (h, idle holding f)
    go true false h f = inr (has r.answer f)
    go false unanswered h f = inr (has r.answer f)

-- a status of mailbox 0 that shows it empty comes from an empty mailbox 0
pub seen_empty : {V M : Type 0} (station : ℕ) (s : Slave V M) (d : Datagram M) → d.access ≡ Access.ReadFull → is_meant s.registers d.address ≡ true →
    (datagram_meets station s d).found ≡ Some (Found.Full false) → s.node.out.box ≡ None
seen_empty {M = M} station s d access meant shown = go s.node.out.box (sym (ap (λ a. found_met s d.found a) access) ∙ sym (ap (λ b. if b then found_met s d.found d.access else d.found) meant) ∙ shown)
  where
    go : (box : Option (LinkMail M)) → Some (Found.Full (is_some box)) ≡ Some (Found.Full false) → box ≡ None
    go None e = refl
    go (Some m) e = absurd (cc)

module _ {V A M Q R : Type 0} (x : Exchange V A M Q R) (law : IsLawful x) (v : V) (ready : x.ready v ≡ true) (front last : List (Row M Q R)) (now : Row M Q R) where
  -- an answered row was carried out, and so all before it
  drained_answered : (held taken accepted : List M) → Moment x v front last now held taken accepted → (answer : R × ℕ) → now.answer ≡ Some answer → x.handled (after x.serve v taken) ≡ x.handled v + length (front ++ last ++ now ∷ [])
  drained_answered held taken accepted at answer e =
      let fits = Moments.fits x law v ready front last now held taken accepted at in
      let below = in_done_last fits.count 0 (front ++ last) now fits.in_done answer e in
      fits.handled ∙ (let same : x.handled v + fits.count ≡ x.handled v + length (front ++ last ++ now ∷ []) = omega (arith, below, fits.prefix, length-append (front ++ last) (now ∷ [])) in same)

  -- one that ends with its last write was, once all mails held are taken
  drained_handed : (held taken accepted : List M) → Moment x v front last now held taken accepted → x.speech.handed now.service ≡ true → left x.speech now ≡ [] → taken ≡ held → x.handled (after x.serve v taken) ≡ x.handled v + length (front ++ last ++ now ∷ [])
  drained_handed held taken accepted at posts over all =
      let whole = handed_whole x law v ready front last now held taken accepted at.fits at.order at.hears posts over in
      let settled = settled_more x law v (front ++ last) now at.fits.settled whole in
      let same : taken ≡ told_all (front ++ last ++ now ∷ []) = all ∙ at.fits.all_held ∙ sym (told_all_last (front ++ last) now) in
      ap (λ ms. x.handled (after x.serve v ms)) same ∙ settled_handled x law v (front ++ last ++ now ∷ []) ready settled

  pub drained : {S : Type 0} (w : Link M S) → Agrees w → Moment x v front last now w.held w.taken w.accepted → (fresh : Bool) → is_over x.speech w.halves.out.holding fresh now ≡ true → w.node.out.box ≡ None →
      x.handled (after x.serve v w.taken) ≡ x.handled v + length (front ++ last ++ now ∷ [])
  drained w agrees at fresh over box =
      let parts = over_parts x w.halves.out.holding fresh now over in
      elim parts.1 [
        | inl h ↦ drained_handed w.held w.taken w.accepted at h.0 parts.0 (all_taken w agrees box h.1)
        | inr a ↦ drained_answered w.held w.taken w.accepted at a.0 a.1
      ]

  -- a row may begin behind it, and so all but one are carried out
  few_left : {S : Type 0} (w : Link M S) → Moment x v (front ++ last) (now ∷ []) (begun now.service 0) w.held w.taken w.accepted → x.handled v + length (front ++ last ++ now ∷ []) ≤ x.handled (after x.serve v w.taken) + 1
  few_left w next =
      let fits = Moments.fits x law v ready (front ++ last) (now ∷ []) (begun now.service 0) w.held w.taken w.accepted next in
      let behind = fits.behind in
      let number = fits.handled in
      omega (arith, behind, number, length-append (front ++ last ++ now ∷ []) (begun now.service 0 ∷ []), length-append (front ++ last) (now ∷ []))

  pub few : {S : Type 0} (w : Link M S) → Agrees w → Moment x v front last now w.held w.taken w.accepted → (fresh : Bool) → is_over x.speech w.halves.out.holding fresh now ≡ true →
      x.handled v + length (front ++ last ++ now ∷ []) ≤ x.handled (after x.serve v w.taken) + 1
  few w agrees at fresh over =
      let parts = over_parts x w.halves.out.holding fresh now over in
      elim parts.1 [
        | inl h ↦ few_left w (Moments.handed x law v ready front last now w.held w.taken w.accepted at h.0 parts.0 (idle_few w agrees h.1) now.service 0 at.fits.valid)
        | inr a ↦ (let all = drained_answered w.held w.taken w.accepted at a.0 a.1 in omega (arith, all))
      ]

-- and so it stays while no further row begins
pub drained_on : {V A M Q R : Type 0} (x : Exchange V A M Q R) → IsLawful x → (v : V) (rows : List (Row M Q R)) (taken more accepted : List M) → x.handled (after x.serve v taken) ≡ x.handled v + length rows →
    Fits x v rows (after x.serve v (taken ++ more)) accepted → x.handled (after x.serve v (taken ++ more)) ≡ x.handled v + length rows
drained_on x law v rows taken more accepted e fits =
    let grows = grows_all x law (after x.serve v taken) more in
    let same = ap x.handled (after-append x.serve v taken more) in
    (let is : x.handled (after x.serve v (taken ++ more)) ≡ x.handled v + length rows = omega (arith, grows, same, e, fits.handled, fits.prefix) in is)
