-- WHAT A MASTER REMEMBERS STAYS while a frame is made, and each slave takes up its mail at its visit.
use Rattle.std.proofs.Common.{◌≡◌, ℕ, zero, suc, Bool, true, Option, Some, None, List, [], ◌∷◌, refl, sym, ap, ◌∙◌, subst}
use Rattle.std.specs.Prelude.{map, option_map}
use Rattle.life_runs.specs.of_mailbox_mail.declared.mail.Mail.{Mail}
use Rattle.life_runs.specs.of_mailbox_master.Any.{in_half_of}
use Rattle.life_runs.specs.of_mailbox_master.Seat.{seat_half}
use Rattle.life_runs.specs.of_link_model.Link.{Halves}
use Rattle.life_runs.specs.of_frame_view.View.{Lens}
use Rattle.life_runs.specs.of_frame_view.Shares.{AllBoth}
use Rattle.life_runs.specs.Led.{Turn, speech_at}
use Rattle.life_runs.specs.of_master_duty.Reply.{Reply}
use Rattle.life_runs.specs.of_exchange_model.Exchange.{Speech}
use Rattle.life_runs.specs.of_exchange_model.Rows.{left}
use Rattle.life_runs.specs.of_segment_model.Seats
use Rattle.life_runs.specs.of_segment_model.Seats.{next_mail, first_left}
use Rattle.life_runs.specs.of_state_model.Accounts.{Account}
use Rattle.life_runs.specs.of_master_hand.Shown.{Shows, SameHand, knows}
use Rattle.life_runs.specs.of_master_hand.Spoken.{Asked}
use Rattle.life_runs.specs.of_master_hand.declared.hand.InHand.{InHand}
use Rattle.life_runs.specs.of_master_side.Carried.{in_hand}
use Rattle.life_runs.specs.of_master_side.Recall.{recall_by}
use Rattle.life_runs.specs.of_master_side.Sent.{SameSide}
use Rattle.life_runs.specs.of_master_side.Shown.{SideShows, DutyShows, OverShows}
use Rattle.life_runs.specs.of_master_side.declared.hand.Hand.{Ghosts}
use Rattle.life_runs.specs.of_master_side.declared.side.Side.{Side}
use Rattle.life_runs.specs.of_link_mails.Body.{Body, link_mail}
use Rattle.life_runs.specs.of_master_tour.Goes.{holds_at}
use Rattle.life_runs.specs.of_master_tour.Stands.{StandShows}
use Rattle.life_runs.specs.of_master_tour.Walks.{EachPair, StepsAt}
use Rattle.life_runs.specs.of_master_tour.declared.stop.Stand.{Stand}
use Rattle.life_runs.specs.of_master_tour.declared.stop.Stop.{Stop}
use Rattle.master_node.specs.Eager.{AllTakeUp, StopGoes, StopTakesUp, TakesUp, recall_of}
use Rattle.master_node.specs.Kept.{StopKept}
use Rattle.master_node.specs.Shows.{IsOnFrame, side_shows}

-- the same hand and side, and what they showed before
shows_back : {G : Ghosts InHand} (s t : Side InHand G) (x : Speech Body Asked Reply) (d : Seats.Side Body Asked Reply) (a : Account Asked Reply) → SameHand s.hand.course s.hand.which s.hand.clients t.hand.course t.hand.which t.hand.clients →
    SameSide s.out s.inn s.fresh s.duty t.out t.inn t.fresh t.duty → SideShows (Shows t.hand.course t.hand.which t.hand.clients x) t.out t.inn t.fresh t.duty d a → SideShows (Shows s.hand.course s.hand.which s.hand.clients x) s.out s.inn s.fresh s.duty d a
shows_back s t x d a h k w = record {
  halves = w.halves ∙ (λ i. record { out = seat_half (k.out_is i); inn = in_half_of (k.in_is i) });
  unsent = w.unsent ∙ k.fresh_is;
  row = subst (λ z. Shows z s.hand.which s.hand.clients x d.now) h.course_is (subst (λ z. Shows t.hand.course z s.hand.clients x d.now) h.which_is (subst (λ z. Shows t.hand.course t.hand.which z x d.now) h.clients_are w.row));
  state = subst (λ z. DutyShows (in_hand z) a.hand) k.duty_is w.state;
  over = subst (λ z. OverShows z a.over) k.duty_is w.over;
}

-- A SLAVE THAT IS KEPT
pub recall_kept : {G : Ghosts InHand} (n : ℕ) (s t : Stop InHand G) → StopKept n s t → recall_of t ≡ recall_of s
recall_kept n s t k = λ i. recall_by (k.side.paused i) (k.side.side.duty_is i) (k.side.passing i) (k.side.turn i) (knows (k.side.hand.course_is i))

pub goes_kept : {G : Ghosts InHand} (n : ℕ) (s t : Stop InHand G) → StopKept n s t → StopGoes s t
goes_kept n s t k = (
  recall_kept n s t k,
  λ h u o e f x d a w. h (sym k.under ∙ u) (sym k.stand ∙ o) (ap (λ z. z.state) (sym k.side.side.out_is) ∙ e) (ap (λ z. knows z) (sym k.side.hand.course_is) ∙ f) x d a (shows_back s.side t.side x d a k.side.hand k.side.side w),
)

-- ONE PLACE, where the slave passes a test or doesn't
pub steps_tested : {S : Type 0} (test : S → Bool) (b : Bool) (P : S → S → Type 0) (i : ℕ) (xs ys : List S) → holds_at test xs i ≡ b → StepsAt P i xs ys → StepsAt (λ s t. P s t × (test s ≡ b)) i xs ys
steps_tested test b P zero [] ys e p = absurd p
steps_tested test b P (suc i) [] ys e p = absurd p
steps_tested test b P zero (x ∷ xs) [] e p = absurd p
steps_tested test b P (suc i) (x ∷ xs) [] e p = absurd p
steps_tested test b P zero (x ∷ xs) (y ∷ ys) e p = ((p.0, e), p.1)
steps_tested test b P (suc i) (x ∷ xs) (y ∷ ys) e p = (p.0, steps_tested test b P i xs ys e p.1)

-- ALL PLACES, one behind the other
pub each_comp : {S : Type 0} (P Q R : S → S → Type 0) → ((x y z : S) → P x y → Q y z → R x z) → (xs ys zs : List S) → EachPair P xs ys → EachPair Q ys zs → EachPair R xs zs
each_comp P Q R h [] [] [] p q = tt
each_comp P Q R h [] [] (z ∷ zs) p q = absurd q
each_comp P Q R h [] (y ∷ ys) zs p q = absurd p
each_comp P Q R h (x ∷ xs) [] zs p q = absurd p
each_comp P Q R h (x ∷ xs) (y ∷ ys) [] p q = absurd q
each_comp P Q R h (x ∷ xs) (y ∷ ys) (z ∷ zs) p q = (h x y z p.0 q.0, each_comp P Q R h xs ys zs p.1 q.1)

-- what is remembered of all
pub each_recalls : {G : Ghosts InHand} (xs ys : List (Stop InHand G)) → EachPair (λ s t. (recall_of t ≡ recall_of s) × StopTakesUp t) xs ys → map (λ s. recall_of s) ys ≡ map (λ s. recall_of s) xs
each_recalls [] [] e = refl
each_recalls [] (y ∷ ys) e = absurd e
each_recalls (x ∷ xs) [] e = absurd e
each_recalls (x ∷ xs) (y ∷ ys) e = λ i. e.0.0 i ∷ each_recalls xs ys e.1 i

-- BY THE LIVES: no mail is left
out_none : (o : Option Mail) → option_map link_mail o ≡ None → o ≡ None
out_none None e = refl
out_none (Some m) e = absurd (cc)

none_first : (ms : List Body) → first_left ms ≡ [] → ms ≡ []
none_first [] e = refl
none_first (m ∷ ms) e = absurd (cc)

takes_stand : {G : Ghosts InHand} (lens : ℕ → Lens) (recover : ℕ) (octets : List ℕ) (u : Turn) (s : Stop InHand G) (stand : Stand) → s.stand ≡ stand → StopTakesUp s → IsOnFrame lens recover octets u s → TakesUp lens (recall_of s) u
takes_stand lens recover octets u s (Stand.Opening up) e h i = λ f o v n.
    let stood = subst (λ (z : Stand). StandShows (λ d b. side_shows lens recover s u.lived.spot d b) u.lived.spot z u.lived.life) e i.lives.shown.stood in
    absurd (let t = sym stood.stand ∙ o in cc)
takes_stand lens recover octets u s Stand.Gone e h i = λ f o v n.
    let stood = subst (λ (z : Stand). StandShows (λ d b. side_shows lens recover s u.lived.spot d b) u.lived.spot z u.lived.life) e i.lives.shown.stood in
    absurd (let t = sym stood ∙ o in cc)
takes_stand lens recover octets u s Stand.Open e h i = λ f o v n r is.
    let stood = subst (λ (z : Stand). StandShows (λ d b. side_shows lens recover s u.lived.spot d b) u.lived.spot z u.lived.life) e i.lives.shown.stood in
    let d = u.lived.life.era.side in
    let held = out_none s.side.out.state (sym (ap (λ (z : Halves Body). z.out.holding) stood.1.halves) ∙ n) in
    let none = h (sym i.under ∙ v) e held f (speech_at lens u.lived.spot) d u.lived.life.era.account stood.1 in
    none_first (left (speech_at lens u.lived.spot) r) (sym (ap (λ z. next_mail (speech_at lens u.lived.spot) z None true) is) ∙ none)

pub all_take : {G : Ghosts InHand} (lens : ℕ → Lens) (recover : ℕ) (octets : List ℕ) (us : List Turn) (xs ss : List (Stop InHand G)) → EachPair (λ s t. (recall_of t ≡ recall_of s) × StopTakesUp t) xs ss → AllBoth (λ u s. IsOnFrame lens recover octets u s) us ss →
    AllTakeUp lens (map (λ s. recall_of s) ss) us
all_take lens recover octets [] [] [] h e = tt
all_take lens recover octets us (x ∷ xs) [] h e = absurd h
all_take lens recover octets us [] (s ∷ ss) h e = absurd h
all_take lens recover octets (u ∷ us) [] [] h e = absurd e
all_take lens recover octets [] (x ∷ xs) (s ∷ ss) h e = absurd e
all_take lens recover octets (u ∷ us) (x ∷ xs) (s ∷ ss) h e = (takes_stand lens recover octets u s s.stand refl h.0.1 e.0, all_take lens recover octets us xs ss h.1 e.1)
