-- What is known of a slave since something was gained last.
use Rattle.std.proofs.Common.{◌≡◌, ◌≢◌, ◌⊎◌, ◌≤◌, ℕ, suc, Bool, true, false, is_some, Option, Some, None, refl, sym, ap, ◌∙◌, subst, arith, if◌then◌else◌, inl, inr}
use Rattle.plan_ring.specs.of_life_model.Visits.{Visit, empty_gain, mails_visit, drain_visit, visit_gain, visited}
use Rattle.plan_ring.specs.of_link_model.Agree.{Agrees}
use Rattle.plan_ring.specs.of_link_model.Gains.{HasStepped, write_gain}
use Rattle.plan_ring.specs.of_link_model.Link.{Link, Event, happens, held_after}
use Rattle.plan_ring.specs.of_link_model.Mails.{LinkMail}
use Rattle.plan_ring.specs.of_link_model.Counters.{next_counter}
use Rattle.plan_ring.specs.of_link_model.Master.{InState, OutHalf, out_hold}
use Rattle.plan_ring.specs.of_link_model.Slave.{Server}
use Rattle.plan_ring.proofs.of_link_model.Gains.{clear_gains, clear_settled, processor_steps}
use Rattle.plan_ring.proofs.of_link_model.Law.{happens_keeps}
use Rattle.plan_ring.specs.of_run_frames.Waits.{Waits}
use Rattle.idle_slaves.specs.Waiting.{Wanted, Memory, Coming, MayCome, IsVain, IsWaiting, IsSpent, IsIdle, link_by, wanted_by, memory_by, memory_behind, visit_by, visit_with, tried}
use Rattle.idle_slaves.proofs.Steps.{full_stays, empty_stays}
use Rattle.idle_slaves.proofs.Visiting.{Same, vain_same, read_empty, write_full, seen_full}

-- BEHIND A VISIT IN VAIN: mailbox 1 was read empty, or it is full and is read next
abbrev pub After : {B S : Type 0} → Link B S → Wanted → Memory → Type 0
After w Wanted.Mails m = ((m.paused ≡ false) × (w.node.inn.box ≡ None)) ⊎ ((m.paused ≡ true) × (w.node.inn.box ≢ None) × (w.halves.out.holding ≢ None))
After w Wanted.Drains m = ((m.turn ≡ false) × (w.node.inn.box ≡ None)) ⊎ ((m.turn ≡ true) × (w.node.inn.box ≢ None))

-- behind two: nothing is held, and mailbox 1 is empty
pub record Twice {B S : Type 0} (w : Link B S) (q : Wanted) : Type 0 where
  pub wanted : q ≡ Wanted.Mails
  pub held : w.halves.out.holding ≡ None
  pub box : w.node.inn.box ≡ None

pub record Holds {B S : Type 0} (v : Server B S) (w : Link B S) (q : Wanted) (m : Memory) (t : Waits) : Type 0 where
  pub agrees : Agrees w
  pub clear : w.halves.inn.state ≡ InState.Clear
  pub stepped : t.stepped ≡ true → HasStepped v w.node
  pub none : t.stepped ≡ false → t.tries ≡ 0
  pub once : 1 ≤ t.tries → After w q m
  pub twice : 2 ≤ t.tries → Twice w q

pub is_stepped : (b : Bool) (n : ℕ) → (b ≡ false → n ≡ 0) → 1 ≤ n → b ≡ true
is_stepped true n f one = refl
is_stepped false n f one = absurd (let no = f refl in omega (arith, no, one))

pub had_step : {B S : Type 0} (v : Server B S) (w : Link B S) (q : Wanted) (m : Memory) (t : Waits) → Holds v w q m t → 1 ≤ t.tries → HasStepped v w.node
had_step v w q m t h one = h.stepped (is_stepped t.stepped t.tries h.none one)

-- ---- A STEP
after_step : {B S : Type 0} (v : Server B S) (w : Link B S) (q : Wanted) (m : Memory) → Agrees w → w.halves.inn.state ≡ InState.Clear → HasStepped v w.node → After w q m → After (happens v w Event.Pdi) q m
after_step v w Wanted.Mails m a e s (inl (p, box)) = inl (p, empty_stays v w s box (clear_settled v w a s e box).3)
after_step v w Wanted.Mails m a e s (inr (p, full, held)) = inr (p, full_stays v w full, held)
after_step v w Wanted.Drains m a e s (inl (p, box)) = inl (p, empty_stays v w s box (clear_settled v w a s e box).3)
after_step v w Wanted.Drains m a e s (inr (p, full)) = inr (p, full_stays v w full)

step_holds : {B S : Type 0} (v : Server B S) (w : Link B S) (q : Wanted) (m : Memory) (t : Waits) → Holds v w q m t → Holds v (happens v w Event.Pdi) q m (record t { stepped = true })
step_holds v w q m t h = record {
  agrees = happens_keeps v w Event.Pdi h.agrees;
  clear = h.clear;
  stepped = λ e. processor_steps v w.node;
  none = λ e. absurd (cc);
  once = λ one. after_step v w q m h.agrees h.clear (had_step v w q m t h one) (h.once one);
  twice = λ two.
      let k = h.twice two in
      let s = had_step v w q m t h (omega (arith, two)) in
      record { wanted = k.wanted; held = k.held; box = empty_stays v w s k.box (clear_settled v w h.agrees s h.clear k.box).3 };
}

-- ---- A CHANGE OF THE SERVER
after_change : {B S : Type 0} (v : Server B S) (w : Link B S) (f : S → S) (q : Wanted) (m : Memory) → After w q m → After (happens v w (Event.Change f)) q m
after_change v w f Wanted.Mails m a = a
after_change v w f Wanted.Drains m a = a

change_holds : {B S : Type 0} (v : Server B S) (w : Link B S) (q : Wanted) (m : Memory) (t : Waits) (f : S → S) → v.next (f w.node.server) ≡ v.next w.node.server → Holds v w q m t → Holds v (happens v w (Event.Change f)) q m t
change_holds v w q m t f same h = record {
  agrees = happens_keeps v w (Event.Change f) h.agrees;
  clear = h.clear;
  stepped = λ e. (let s = h.stepped e in record { acknowledged = s.acknowledged; nothing = λ none. (let k = s.nothing none in (k.0, k.1, same ∙ k.2)); stays = s.stays });
  none = h.none;
  once = λ one. after_change v w f q m (h.once one);
  twice = λ two. (let k = h.twice two in record { wanted = k.wanted; held = k.held; box = k.box });
}

-- ---- WHAT COMES INTO HAND
pub record Comes {B S : Type 0} (w u : Link B S) : Type 0 where
  pub inn : u.halves.inn ≡ w.halves.inn
  pub node : u.node ≡ w.node
  pub agrees : Agrees u

held_comes : {B S : Type 0} (w : Link B S) (holding : Option (LinkMail B)) (body : B) → Agrees (held_after w holding body) → Comes w (held_after w holding body)
held_comes w None body a = record { inn = refl; node = refl; agrees = a }
held_comes w (Some m) body a = record { inn = refl; node = refl; agrees = a }

pub comes : {B S : Type 0} (v : Server B S) (w : Link B S) (c : Coming B) → Agrees w → Comes w (link_by v w c)
comes v w Coming.Nothing a = record { inn = refl; node = refl; agrees = a }
comes v w (Coming.Mail body) a = held_comes w w.halves.out.holding body (happens_keeps v w (Event.Hold body) a)
comes v w Coming.State a = record { inn = refl; node = refl; agrees = a }

-- ---- A VISIT IN VAIN behind a step
read_after : {B S : Type 0} (v : Server B S) (w : Link B S) → Agrees w → w.halves.inn.state ≡ InState.Clear → visit_gain w Visit.Read ≡ 0 → (visited v w Visit.Read).node.inn.box ≡ None
read_after v w a e g = let s = vain_same v w Visit.Read a e g in ap (λ n. n.inn.box) s.node ∙ read_empty v w e g

mails_after : {B S : Type 0} (v : Server B S) (w : Link B S) (m : Memory) (p : Bool) (holding : Option (LinkMail B)) → w.halves.out.holding ≡ holding → Agrees w → w.halves.inn.state ≡ InState.Clear → HasStepped v w.node →
    visit_gain w (mails_visit p (is_some holding)) ≡ 0 → After (visited v w (mails_visit p (is_some holding))) Wanted.Mails (memory_behind m (mails_visit p (is_some holding)))
mails_after v w m true holding h a e s g = inl (refl, read_after v w a e g)
mails_after v w m false None h a e s g = inl (refl, read_after v w a e g)
mails_after v w m false (Some b) h a e s g =
    let some : w.halves.out.holding ≢ None = λ none. (let both : Some b ≡ None = sym h ∙ none in cc) in
    let same = vain_same v w Visit.Write a e g in
    inr (refl, (λ none. write_full v w s some g (sym (ap (λ n. n.inn.box) same.node) ∙ none)), (λ none. some (sym (ap (λ k. k.out.holding) same.halves) ∙ none)))

drain_after : {B S : Type 0} (v : Server B S) (w : Link B S) (m : Memory) (turn : Bool) → Agrees w → w.halves.inn.state ≡ InState.Clear → HasStepped v w.node →
    visit_gain w (drain_visit turn) ≡ 0 → After (visited v w (drain_visit turn)) Wanted.Drains (memory_behind m (drain_visit turn))
drain_after v w m true a e s g = inl (refl, read_after v w a e g)
drain_after v w m false a e s g = inr (refl, seen_full v w s g)

pub visit_after : {B S : Type 0} (v : Server B S) (w : Link B S) (q : Wanted) (m : Memory) → Agrees w → w.halves.inn.state ≡ InState.Clear → HasStepped v w.node →
    (let visit = visit_by q m (is_some w.halves.out.holding) in visit_gain w visit ≡ 0 → After (visited v w visit) q (memory_behind m visit))
visit_after v w Wanted.Mails m a e s g = mails_after v w m m.paused w.halves.out.holding refl a e s g
visit_after v w Wanted.Drains m a e s g = drain_after v w m m.turn a e s g

-- ---- A SECOND ONE
not_one : {X : Type 0} (n : ℕ) → n ≡ 1 → n ≡ 0 → X
not_one n e f = absurd (omega (arith, e, f))

sees_empty : {B : Type 0} (box : Option (LinkMail B)) → box ≡ None → empty_gain box ≡ 1
sees_empty None e = refl
sees_empty (Some b) e = absurd (cc)

write_one : {B : Type 0} (holding box : Option (LinkMail B)) → holding ≢ None → box ≡ None → write_gain holding box ≡ 1
write_one None box f e = absurd (f refl)
write_one (Some m) None f e = refl
write_one (Some m) (Some b) f e = absurd (cc)

held_some : {B : Type 0} (h : OutHalf B) (body : B) → (out_hold h body).holding ≢ None
held_some h body none = absurd (let both : Some (record { counter = next_counter h.last; body = body }) ≡ None = none in cc)

module _ {B S : Type 0} (v : Server B S) (w : Link B S) (a : Agrees w) (e : w.halves.inn.state ≡ InState.Clear) (s : HasStepped v w.node) where
  -- behind a read of an empty mailbox 1 nothing is held
  mails_held : (holding : Option (LinkMail B)) → w.halves.out.holding ≡ holding → w.node.inn.box ≡ None → visit_gain w (mails_visit false (is_some holding)) ≡ 0 → holding ≡ None
  mails_held None h box g = refl
  mails_held (Some b) h box g = not_one (visit_gain w Visit.Write) (write_one w.halves.out.holding w.node.out.box (λ none. (let both : Some b ≡ None = sym h ∙ none in cc)) (clear_settled v w a s e box).3) g

  mails_nothing : (m : Memory) → After w Wanted.Mails m → IsVain v w Wanted.Mails m Coming.Nothing → (w.halves.out.holding ≡ None) × (w.node.inn.box ≡ None)
  mails_nothing m (inl (p, box)) g = (mails_held w.halves.out.holding refl box (subst (λ z. visit_gain w (mails_visit z (is_some w.halves.out.holding)) ≡ 0) p g), box)
  mails_nothing m (inr (p, full, held)) g = not_one (visit_gain w Visit.Read) (clear_gains w e full) (subst (λ z. visit_gain w (mails_visit z (is_some w.halves.out.holding)) ≡ 0) p g)

  drain_nothing : {X : Type 0} (m : Memory) → After w Wanted.Drains m → visit_gain w (drain_visit m.turn) ≡ 0 → X
  drain_nothing m (inl (p, box)) g = not_one (visit_gain w Visit.Full) (sees_empty w.node.out.box (clear_settled v w a s e box).3) (subst (λ z. visit_gain w (drain_visit z) ≡ 0) p g)
  drain_nothing m (inr (p, full)) g = not_one (visit_gain w Visit.Read) (clear_gains w e full) (subst (λ z. visit_gain w (drain_visit z) ≡ 0) p g)

  -- a mail that is taken up is written
  mail_comes : {X : Type 0} (holding : Option (LinkMail B)) (body : B) (p : Bool) → holding ≡ None → p ≡ false → w.node.inn.box ≡ None → (let u = held_after w holding body in visit_gain u (mails_visit p (is_some u.halves.out.holding)) ≡ 0) → X
  mail_comes None body false h p box g = not_one (write_gain (out_hold w.halves.out body).holding w.node.out.box) (write_one (out_hold w.halves.out body).holding w.node.out.box (held_some w.halves.out body) (clear_settled v w a s e box).3) g
  mail_comes None body true h p box g = absurd (cc)
  mail_comes (Some m) body p h q box g = absurd (cc)

  -- the status of mailbox 0 and mailbox 1 are read as before
  drain_holds : (holding : Option (LinkMail B)) (body : B) (turn : Bool) → visit_gain (held_after w holding body) (drain_visit turn) ≡ 0 → visit_gain w (drain_visit turn) ≡ 0
  drain_holds None body true g = g
  drain_holds None body false g = g
  drain_holds (Some m) body turn g = g

  idle_by : (q : Wanted) (m : Memory) (t : Waits) (c : Coming B) → 1 ≤ t.tries → After w q m → MayCome c q m t w.halves.out.holding → IsVain v w q m c → Twice w q × (c ≡ Coming.Nothing)
  idle_by Wanted.Mails m t Coming.Nothing one k may g = let both = mails_nothing m k g in (record { wanted = refl; held = both.0; box = both.1 }, refl)
  idle_by Wanted.Drains m t Coming.Nothing one k may g = drain_nothing m k g
  idle_by Wanted.Mails m t (Coming.Mail body) one (inl (p, box)) may g = mail_comes w.halves.out.holding body m.paused may p box g
  idle_by Wanted.Mails m t (Coming.Mail body) one (inr (p, full, held)) may g = absurd (held may)
  idle_by Wanted.Drains m t (Coming.Mail body) one k may g = drain_nothing m k (drain_holds w.halves.out.holding body m.turn g)
  idle_by Wanted.Mails m t Coming.State one (inl (p, box)) may g = not_one (visit_gain w Visit.Full) (sees_empty w.node.out.box (clear_settled v w a s e box).3) g
  idle_by Wanted.Mails m t Coming.State one (inr (p, full, held)) may g = absurd (let no : true ≡ false = sym p ∙ may.1 one in cc)
  idle_by Wanted.Drains m t Coming.State one k may g = absurd (let no : Wanted.Drains ≡ Wanted.Mails = may.0 in cc)

-- ---- THE VISIT, as it is counted
tried_none : (b : Bool) (n : ℕ) → (b ≡ false → n ≡ 0) → b ≡ false → (if b then suc n else n) ≡ 0
tried_none true n f e = absurd (cc)
tried_none false n f e = f refl

pub tried_more : (b : Bool) (n k : ℕ) → (b ≡ false → n ≡ 0) → suc k ≤ (if b then suc n else n) → (b ≡ true) × (k ≤ n)
tried_more true n k f le = (refl, omega (arith, le))
tried_more false n k f le = absurd (let no = f refl in omega (arith, no, le))

module _ {B S : Type 0} (v : Server B S) (w : Link B S) (q : Wanted) (m : Memory) (t : Waits) (c : Coming B) (h : Holds v w q m t) (may : MayCome c q m t w.halves.out.holding) (g : IsVain v w q m c) where
  abbrev pub u : Link B S
  u = link_by v w c

  come : Comes w u
  come = comes v w c h.agrees

  clear : u.halves.inn.state ≡ InState.Clear
  clear = ap (λ k. k.state) come.inn ∙ h.clear

  same : Same u (visited v u (visit_with v w q m c))
  same = vain_same v u (visit_with v w q m c) come.agrees clear g

  has : t.stepped ≡ true → HasStepped v u.node
  has e = subst (λ n. HasStepped v n) (sym come.node) (h.stepped e)

  two : 1 ≤ t.tries → Twice w q × (c ≡ Coming.Nothing)
  two one = idle_by v w h.agrees h.clear (had_step v w q m t h one) q m t c one (h.once one) may g

  twice_at : Twice w q → c ≡ Coming.Nothing → Twice (visited v u (visit_with v w q m c)) (wanted_by q c)
  twice_at k e = record {
    wanted = ap (wanted_by q) e ∙ k.wanted;
    held = ap (λ z. z.out.holding) same.halves ∙ ap (λ z. (link_by v w z).halves.out.holding) e ∙ k.held;
    box = ap (λ n. n.inn.box) (same.node ∙ come.node) ∙ k.box;
  }

  pub visit_holds : Holds v (visited v u (visit_with v w q m c)) (wanted_by q c) (memory_behind (memory_by m c) (visit_with v w q m c)) (tried t)
  visit_holds = record {
    agrees = same.agrees;
    clear = ap (λ z. z.inn.state) same.halves ∙ clear;
    stepped = λ e. subst (λ n. HasStepped v n) (sym same.node) (has e);
    none = λ e. tried_none t.stepped t.tries h.none e;
    once = λ one. visit_after v u (wanted_by q c) (memory_by m c) come.agrees clear (has (tried_more t.stepped t.tries 0 h.none one).0) g;
    twice = λ two_tries. (let both = two (tried_more t.stepped t.tries 1 h.none two_tries).1 in twice_at both.0 both.1);
  }

-- ---- ALL FRAMES
pub holds : {B S : Type 0} (v : Server B S) (w : Link B S) (q : Wanted) (m : Memory) (t : Waits) → IsWaiting v w q m t → Holds v w q m t
holds v _ _ _ _ (IsWaiting.new w q m a e) = record { agrees = a; clear = e; stepped = λ no. absurd (cc); none = λ z. refl; once = λ no. absurd (omega (arith, no)); twice = λ no. absurd (omega (arith, no)) }
holds v _ _ _ _ (IsWaiting.steps w q m t k) = step_holds v w q m t (holds v w q m t k)
holds v _ _ _ _ (IsWaiting.changes w q m t f k same) = change_holds v w q m t f same (holds v w q m t k)
holds v _ _ _ _ (IsWaiting.visits w q m t c k may g) = visit_holds v w q m t c (holds v w q m t k) may g

spent_by : {B S : Type 0} (v : Server B S) (w : Link B S) (q : Wanted) → Agrees w → w.halves.inn.state ≡ InState.Clear → HasStepped v w.node → Twice w q → IsSpent v w
spent_by v w q a e s k =
    let all = clear_settled v w a s e k.box in
    record { left = record { accepted = all.0; withdrawn = all.1; next = all.2; out = all.3 }; held = k.held; clear = e; box = k.box; offered = (s.nothing k.box).0 }

pub spent : {B S : Type 0} (v : Server B S) (w : Link B S) (q : Wanted) (m : Memory) (t : Waits) → IsWaiting v w q m t → 2 ≤ t.tries → IsSpent v w × (q ≡ Wanted.Mails)
spent v w q m t k le =
    let h = holds v w q m t k in
    let twice = h.twice le in
    (spent_by v w q h.agrees h.clear (had_step v w q m t h (omega (arith, le))) twice, twice.wanted)

pub idle : {B S : Type 0} (v : Server B S) (w : Link B S) (q : Wanted) (m : Memory) (t : Waits) (c : Coming B) → IsWaiting v w q m t → 1 ≤ t.tries → MayCome c q m t w.halves.out.holding → IsVain v w q m c → IsIdle v w q c
idle v w q m t c k le may g =
    let h = holds v w q m t k in
    let both = two v w q m t c h may g le in
    record { spent = spent_by v w q h.agrees h.clear (had_step v w q m t h le) both.0; wanted = both.0.wanted; nothing = both.1 }
