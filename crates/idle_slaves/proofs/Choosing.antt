-- What comes into hand with a visit, by its master's choice.
use Rattle.std.proofs.Common.{◌≡◌, ◌⊎◌, ◌≤◌, ℕ, Bool, true, false, Option, Some, None, List, [], ◌∷◌, ◌++◌, refl, sym, ap, ◌∙◌, subst, if◌then◌else◌, inl, inr}
use Rattle.std.specs.Prelude.{◌&&◌, length, nat_lt}
use Rattle.plan_ring.specs.of_exchange_model.Exchange.{Speech}
use Rattle.plan_ring.specs.of_exchange_model.Rows.{Row, begun, left}
use Rattle.plan_ring.specs.of_life_model.Lives.{Life, Stand, life_next, granted, passing_begins}
use Rattle.plan_ring.specs.of_link_model.Link.{Halves, Link, held_after}
use Rattle.plan_ring.specs.of_link_model.Mails.{LinkMail}
use Rattle.plan_ring.specs.of_link_model.Master.{out_hold}
use Rattle.plan_ring.specs.of_link_model.Slave.{Node, Server}
use Rattle.plan_ring.specs.of_run_frames.Waits.{Waits}
use Rattle.plan_ring.specs.of_segment_model.Ends.{Passing}
use Rattle.plan_ring.specs.of_segment_model.Seats.{Side, Choice, side_begins, side_holds, side_next, next_mail, first_left, is_over, is_none_left}
use Rattle.plan_ring.specs.of_state_model.Stated.{Service}
use Rattle.plan_ring.specs.of_state_model.Accounts.{Account, Duty, Pick, Stage, account_begins, mails_begin, mails_choice, is_free, is_acknowledged, starts, state_begins}
use Rattle.idle_slaves.specs.Waiting.{Wanted, Memory, Coming}
use Rattle.idle_slaves.specs.Visited.{IsFor, IsUnpaused, Waiting, Chosen, is_boxed, is_served, memory_next}

-- A MAIL IS TAKEN UP where none is held, or the halves stay
pub data Holds {M : Type 0} (h k : Halves M) : Type 0 where
  stays : k ≡ h → Holds h k
  one : (body : M) → h.out.holding ≡ None → k ≡ record h { out = out_hold h.out body } → Holds h k

begins_halves : {M Q R : Type 0} (x : Speech M Q R) (frame : ℕ) (d : Side M Q R) (now : Option (Row M Q R)) (begin : Option Q) → (side_begins x frame d now begin).halves ≡ d.halves
begins_halves x frame d now None = refl
begins_halves x frame d None (Some q) = go (x.valid q)
  where
    go : (b : Bool) → (if b then record d { now = Some (begun q frame) } else d).halves ≡ d.halves
    go true = refl
    go false = refl
begins_halves x frame d (Some r) (Some q) = go (x.valid q && is_over x d.halves.out.holding d.fresh r)
  where
    go : (b : Bool) → (if b then record d { past = d.past ++ r ∷ []; now = Some (begun q frame) } else d).halves ≡ d.halves
    go true = refl
    go false = refl

takes : {M Q R : Type 0} (x : Speech M Q R) (d : Side M Q R) (now : Option (Row M Q R)) (holding : Option (LinkMail M)) (hold : Bool) → d.halves.out.holding ≡ holding → Holds d.halves (side_holds d (next_mail x now holding hold)).halves
takes x d now holding false e = Holds.stays refl
takes x d None holding true e = Holds.stays refl
takes x d (Some r) (Some m) true e = Holds.stays refl
takes {M} x d (Some r) None true e = go (left x r)
  where
    go : (ms : List M) → Holds d.halves (side_holds d (first_left ms)).halves
    go [] = Holds.stays refl
    go (m ∷ ms) = Holds.one m e refl

pub side_takes : {M Q R : Type 0} (x : Speech M Q R) (frame : ℕ) (d : Side M Q R) (c : Choice Q) → Holds d.halves (side_next x frame d c).halves
side_takes x frame d c =
    let e = side_begins x frame d d.now c.begin in
    subst (λ h. Holds h (side_next x frame d c).halves) (begins_halves x frame d d.now c.begin) (takes x e e.now e.halves.out.holding c.hold refl)

-- none, where the row is over
over_none : {M Q R : Type 0} (x : Speech M Q R) (d : Side M Q R) (now : Option (Row M Q R)) (holding : Option (LinkMail M)) (hold : Bool) → is_free x d now ≡ true → (side_holds d (next_mail x now holding hold)).halves ≡ d.halves
over_none x d now holding false e = refl
over_none x d None holding true e = refl
over_none x d (Some r) (Some m) true e = refl
over_none {M} x d (Some r) None true e = go (left x r) _ e
  where
    go : (ms : List M) (rest : Bool) → (is_none_left ms && rest) ≡ true → (side_holds d (first_left ms)).halves ≡ d.halves
    go [] rest f = refl
    go (m ∷ ms) rest f = absurd (let no : false ≡ true = f in cc)

-- A STATE SERVICE COMES INTO HAND, with no mail, or none does
abbrev Chooses : {M Q R : Type 0} → Speech M Q R → ℕ → Side M Q R → Account Q R → Pick Q → Account Q R → Type 0
Chooses x frame d a p b = (b.hand ≡ a.hand) ⊎ ((target : ℕ) × (a.hand ≡ None) × (p.begin ≡ Some (Service.State target)) × (b.hand ≡ Some (record { target = target; frame = frame; stage = Stage.Drains })) × ((side_next x frame d (mails_choice a p)).halves ≡ d.halves))

and_first : (a b : Bool) → (a && b) ≡ true → a ≡ true
and_first true b e = refl
and_first false b e = e

no_state : {M Q R : Type 0} (x : Speech M Q R) (frame : ℕ) (d : Side M Q R) (a : Account Q R) (target : ℕ) (hold : Bool) → a.hand ≡ None → is_free x d d.now ≡ true →
    (side_next x frame d (mails_choice a (record { begin = Some (Service.State target); hold = hold }))).halves ≡ d.halves
no_state x frame d a target hold e free =
    subst (λ z. (let f = side_begins x frame d d.now (mails_begin z (Some (Service.State target))) in (side_holds f (next_mail x f.now f.halves.out.holding hold)).halves) ≡ d.halves) (sym e) (over_none x d d.now d.halves.out.holding hold free)

choose : {M Q R : Type 0} (x : Speech M Q R) (acknowledged : Q → Bool) (frame : ℕ) (d : Side M Q R) (a : Account Q R) (hand : Option Duty) (begin : Option (Service Q)) (hold : Bool) → a.hand ≡ hand →
    Chooses x frame d a (record { begin = begin; hold = hold }) (account_begins x acknowledged frame d a hand begin)
choose x acknowledged frame d a hand None hold e = inl refl
choose x acknowledged frame d a (Some duty) (Some wish) hold e = inl refl
choose {M} {Q} {R} x acknowledged frame d a None (Some (Service.Mails q)) hold e = go (x.valid q && is_free x d d.now)
  where
    go : (b : Bool) → Chooses x frame d a (record { begin = Some (Service.Mails q); hold = hold }) (if b then record a { started = starts a (Service.Mails q) frame } else a)
    go true = inl refl
    go false = inl refl
choose {M} {Q} {R} x acknowledged frame d a None (Some (Service.State target)) hold e = go (is_free x d d.now && is_acknowledged x acknowledged d d.now) refl
  where
    go : (b : Bool) → (is_free x d d.now && is_acknowledged x acknowledged d d.now) ≡ b → Chooses x frame d a (record { begin = Some (Service.State target); hold = hold }) (if b then state_begins a target frame else a)
    go true f = inr (target, e, refl, refl, no_state x frame d a target hold e (and_first (is_free x d d.now) (is_acknowledged x acknowledged d d.now) f))
    go false f = inl refl

-- ---- THE LINK
same_for : (q : Wanted) (a b : Option Duty) (p : Option Passing) → b ≡ a → IsFor q a p → IsFor q b p
same_for q a b p e f = subst (λ z. IsFor q z p) (sym e) f

not_drains : {X : Type 0} (q : Wanted) (a : Option Duty) (p : Option Passing) → a ≡ None → p ≡ None → IsFor q a p → (q ≡ Wanted.Mails → X) → X
not_drains Wanted.Mails a p e none f k = k refl
not_drains Wanted.Drains a p e none (inl (duty, is, stage)) k = absurd (let no : Some duty ≡ None = sym is ∙ e in cc)
not_drains Wanted.Drains a p e none (inr (hand, boxed)) k = absurd (let no : false ≡ true = sym (ap is_boxed none) ∙ boxed in cc)

-- what is remembered stays with the state service in hand
same_memory : (a b : Option Duty) (m : Memory) → b ≡ a → memory_next a b m ≡ m
same_memory a b m e = ap (λ z. memory_next a z m) e ∙ go a
  where
    go : (z : Option Duty) → memory_next z z m ≡ m
    go None = refl
    go (Some duty) = refl

-- A MAIL THAT IS PASSED ON comes into hand only where none is, and then mailbox 0 hasn't taken it
pub record Passes (old new : Option Passing) : Type 0 where
  pub for : (q : Wanted) (hand : Option Duty) → IsFor q hand old → IsFor q hand new
  pub served : is_served new ≡ is_served old

unboxed_for : (q : Wanted) (hand : Option Duty) (p : Option Passing) → is_boxed p ≡ false → IsFor q hand None → IsFor q hand p
unboxed_for Wanted.Mails hand p e (none, f) = (none, e)
unboxed_for Wanted.Drains hand p e (inl k) = inl k
unboxed_for Wanted.Drains hand p e (inr (none, f)) = absurd (cc)

module _ {M Q R : Type 0} (x : Speech M Q R) (acknowledged : Q → Bool) (more : M → Bool) (passed : Q → Bool) (old new : Account Q R) where
  abbrev begins_by : Option Passing → Option (Service Q) → Option Passing
  begins_by p begin = passing_begins x acknowledged more passed p old new begin

  begun_passes : (begin : Option (Service Q)) → Passes None (begins_by None begin)
  begun_passes None = record { for = λ q hand f. f; served = refl }
  begun_passes (Some (Service.State target)) = record { for = λ q hand f. f; served = refl }
  begun_passes (Some (Service.Mails q)) = go (passed q && nat_lt (length old.started) (length new.started))
    where
      go : (b : Bool) → Passes None (if b then Some Passing.Waiting else None)
      go true = record { for = λ q' hand f. unboxed_for q' hand (Some Passing.Waiting) refl f; served = refl }
      go false = record { for = λ q' hand f. f; served = refl }

  next_passes : (p : Option Passing) (pick : Pick Q) → Passes p (begins_by p (granted p pick).begin)
  next_passes None pick = begun_passes pick.begin
  next_passes (Some p) pick = record { for = λ q hand f. f; served = refl }

-- what begins is what was chosen, and then no such mail is in hand
granted_is : {Q : Type 0} (p : Option Passing) (pick : Pick Q) (w : Service Q) → (granted p pick).begin ≡ Some w → (p ≡ None) × (pick.begin ≡ Some w)
granted_is None pick w e = (refl, e)
granted_is (Some p) pick w e = absurd (cc)

held_halves : {B S : Type 0} (w : Link B S) (holding : Option (LinkMail B)) (body : B) → holding ≡ None → (held_after w holding body).halves ≡ record w.halves { out = out_hold w.halves.out body }
held_halves w None body e = refl
held_halves w (Some m) body e = absurd (cc)

held_node : {B S : Type 0} (w : Link B S) (holding : Option (LinkMail B)) (body : B) → (held_after w holding body).node ≡ w.node
held_node w None body = refl
held_node w (Some m) body = refl

module _ {M Q R S : Type 0} (v : Server M S) (l : Life M Q R) (n : Node M S) (m : Memory) (t : Waits) (k : Waiting v l n m t) where
  abbrev w : Link M S
  w = k.link

  -- a mail, or nothing
  with_mail : (j : Life M Q R) → j.stand ≡ Stand.Open → j.era.account.hand ≡ l.era.account.hand → Passes l.era.passing j.era.passing → Holds l.era.side.halves j.era.side.halves → Chosen v l j n m t
  with_mail j stands_open hand passes (Holds.stays same) = record {
    link = w;
    wanted = k.wanted;
    waits = k.waits;
    was = k.shows;
    coming = Coming.Nothing;
    may = tt;
    shows = record { halves = k.shows.halves ∙ sym same; node = k.shows.node; hand = passes.for k.wanted j.era.account.hand (same_for k.wanted l.era.account.hand j.era.account.hand l.era.passing hand k.shows.hand); stands = stands_open };
    remembers = same_memory l.era.account.hand j.era.account.hand m hand;
    served = passes.served;
  }
  with_mail j stands_open hand passes (Holds.one body none same) =
      let free : w.halves.out.holding ≡ None = ap (λ h. h.out.holding) k.shows.halves ∙ none in
      record {
        link = w;
        wanted = k.wanted;
        waits = k.waits;
        was = k.shows;
        coming = Coming.Mail body;
        may = free;
        shows = record {
          halves = held_halves w w.halves.out.holding body free ∙ ap (λ (h : Halves M). record h { out = out_hold h.out body }) k.shows.halves ∙ sym same;
          node = held_node w w.halves.out.holding body ∙ k.shows.node;
          hand = passes.for k.wanted j.era.account.hand (same_for k.wanted l.era.account.hand j.era.account.hand l.era.passing hand k.shows.hand);
          stands = stands_open;
        };
        remembers = same_memory l.era.account.hand j.era.account.hand m hand;
        served = passes.served;
      }

  -- a state service
  with_state : (j : Life M Q R) (target frame : ℕ) → j.stand ≡ Stand.Open → l.era.account.hand ≡ None → l.era.passing ≡ None → Passes l.era.passing j.era.passing → (1 ≤ t.tries → m.paused ≡ false) → j.era.account.hand ≡ Some (record { target = target; frame = frame; stage = Stage.Drains }) → j.era.side.halves ≡ l.era.side.halves → Chosen v l j n m t
  with_state j target frame stands_open none unpassed passes unpaused hand same = not_drains k.wanted l.era.account.hand l.era.passing none unpassed k.shows.hand (λ q. record {
    link = w;
    wanted = k.wanted;
    waits = k.waits;
    was = k.shows;
    coming = Coming.State;
    may = (q, unpaused);
    shows = record { halves = k.shows.halves ∙ sym same; node = k.shows.node; hand = inl (record { target = target; frame = frame; stage = Stage.Drains }, hand, refl); stands = stands_open };
    remembers = ap (λ z. memory_next z j.era.account.hand m) none ∙ ap (λ z. memory_next None z m) hand;
    served = passes.served;
  })

  chosen_by : (j : Life M Q R) (x : Speech M Q R) (frame : ℕ) (p : Pick Q) → IsUnpaused p m t → ((w : Service Q) → p.begin ≡ Some w → l.era.passing ≡ None) → Passes l.era.passing j.era.passing → j.stand ≡ Stand.Open → j.era.side.halves ≡ (side_next x frame l.era.side (mails_choice l.era.account p)).halves → Chooses x frame l.era.side l.era.account p j.era.account → Chosen v l j n m t
  chosen_by j x frame p unpaused unpassed passes stands_open halves (inl hand) = with_mail j stands_open hand passes (subst (λ h. Holds l.era.side.halves h) (sym halves) (side_takes x frame l.era.side (mails_choice l.era.account p)))
  chosen_by j x frame p unpaused unpassed passes stands_open halves (inr (target, none, begin, hand, same)) =
      with_state j target frame stands_open none (unpassed (Service.State target) begin) passes (unpaused target begin) hand (halves ∙ same)

  -- by the choice that is granted
  chosen_at : (x : Speech M Q R) (acknowledged : Q → Bool) (more : M → Bool) (passed : Q → Bool) (frame : ℕ) (pick : Pick Q) → IsUnpaused pick m t → Chosen v l (life_next x acknowledged more passed frame l Stand.Open pick) n m t
  chosen_at x acknowledged more passed frame pick unpaused =
      let p = granted l.era.passing pick in
      let j = life_next x acknowledged more passed frame l Stand.Open pick in
      chosen_by j x frame p (λ target begin. unpaused target (granted_is l.era.passing pick (Service.State target) begin).1) (λ w begin. (granted_is l.era.passing pick w begin).0)
      (next_passes x acknowledged more passed l.era.account j.era.account l.era.passing pick) k.shows.stands refl (choose x acknowledged frame l.era.side l.era.account l.era.account.hand p.begin p.hold refl)

  pub chosen : (x : Speech M Q R) (acknowledged : Q → Bool) (more : M → Bool) (passed : Q → Bool) (frame : ℕ) (pick : Pick Q) → IsUnpaused pick m t → Chosen v l (life_next x acknowledged more passed frame l l.stand pick) n m t
  chosen x acknowledged more passed frame pick unpaused = subst (λ s. Chosen v l (life_next x acknowledged more passed frame l s pick) n m t) (sym k.shows.stands) (chosen_at x acknowledged more passed frame pick unpaused)
