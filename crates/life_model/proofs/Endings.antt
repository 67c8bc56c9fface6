-- A slave that meets the word which returns it to Init stays as it stood until the step that carries the word out.
use Rattle.std.proofs.Common.{◌≡◌, inl, inr, ℕ, zero, suc, ◌≤◌, ◌==◌, Bool, true, false, cond, Some, None, Option, List, [], ◌∷◌, ◌++◌, length, refl, ap, ap₂, sym, ◌∙◌, subst, arith, if◌then◌else◌}
use Rattle.state_model.specs.of_exchange_model.Exchange.{Exchange}
use Rattle.state_model.specs.of_link_model.Frames.{node_meets}
use Rattle.state_model.specs.of_link_model.Segment.{RingFate}
use Rattle.state_model.specs.of_segment_model.Slaves.{Registers, Processor, Slave, Datagram, Address, Access, Ring, is_meant, registers_met, slave_meets, slave_after, frame_after, slave_steps, first_meet, ring_after}
use Rattle.state_model.specs.of_segment_model.Record.{is_for}
use Rattle.state_model.specs.States.{Table, decided, word_carried, carry}
use Rattle.life_model.specs.Own.{own, IsSeen, AreSeen}
use Rattle.life_model.specs.Eras.{Clearing, IsClearing}
use Rattle.life_model.specs.Ending.{NoneMean, ReturnsIt, worded, IsClosing, AreClosing, AllClose, behind_all, node_returned, steps_or_returns, HasEnded}

-- nothing is addressed to it
nothing_own : {M : Type 0} (station : ℕ) (d : Datagram M) (ds : List (Datagram M)) → own station (d ∷ ds) ≡ [] → (is_for station d.address ≡ false) × (own station ds ≡ [])
nothing_own station d ds e = go (is_for station d.address) e
  where
    go : (b : Bool) → cond b (d ∷ own station ds) (own station ds) ≡ [] → (b ≡ false) × (own station ds ≡ [])
    go true e = absurd (let clash : d ∷ own station ds ≡ [] = e in cc)
    go false e = (refl, e)

-- a word that waits doesn't change whom a datagram means
same_meant : (r : Registers) (word : Option (ℕ × Bool)) (a : Address) → is_meant (record r { control = word }) a ≡ is_meant r a
same_meant r word (Address.Station n) = refl
same_meant r word (Address.Place zero) = refl
same_meant r word (Address.Place (suc n)) = refl
same_meant r word Address.Passed = refl

same_none : {M : Type 0} (r : Registers) (word : Option (ℕ × Bool)) (ds : List (Datagram M)) → NoneMean r ds → NoneMean (record r { control = word }) ds
same_none r word [] n = tt
same_none r word (d ∷ ds) n = (same_meant r word d.address ∙ n.0, same_none r word ds n.1)

split : {M : Type 0} (station : ℕ) (xs ys : List (Datagram M)) → AreSeen (xs ++ ys) → own station (xs ++ ys) ≡ [] → (AreSeen xs × (own station xs ≡ [])) × (AreSeen ys × (own station ys ≡ []))
split station [] ys seen none = ((tt, refl), (seen, none))
split station (d ∷ xs) ys seen none =
    let o = nothing_own station d (xs ++ ys) none in
    let rest = split station xs ys seen.1 o.1 in
    (((seen.0, rest.0.0), ap (λ b. cond b (d ∷ own station xs) (own station xs)) o.0 ∙ rest.0.1), rest.1)

module _ {V M : Type 0} (station : ℕ) where
  -- a datagram that isn't addressed to the station leaves the mailboxes
  node_stays : (s : Slave V M) (d : Datagram M) → IsSeen d → is_for station d.address ≡ false → (slave_meets station s d).node ≡ s.node
  node_stays s d (inl o) e = ap (λ a. if d.gram.station == station then node_meets s.node a else s.node) o ∙ go (d.gram.station == station)
    where
      go : (b : Bool) → (if b then s.node else s.node) ≡ s.node
      go true = refl
      go false = refl
  node_stays s d (inr a) e = ap (λ b. if b then node_meets s.node d.gram.ask else s.node) (sym (ap (is_for station) a) ∙ e)

  met : (s : Slave V M) (d : Datagram M) → IsSeen d → is_for station d.address ≡ false → slave_meets station s d ≡ record { node = s.node; registers = if is_meant s.registers d.address then registers_met s.registers d.access else s.registers }
  met s d seen e = ap (λ n. record { node = n; registers = if is_meant s.registers d.address then registers_met s.registers d.access else s.registers }) (node_stays s d seen e)

  -- A FRAME THAT NEITHER MEANS IT NOR IS ADDRESSED TO IT leaves a slave
  pub stands : (s : Slave V M) (ds : List (Datagram M)) → AreSeen ds → own station ds ≡ [] → NoneMean s.registers ds → slave_after station s ds ≡ s
  stands s [] seen none nay = refl
  stands s (d ∷ ds) seen none nay =
      let o = nothing_own station d ds none in
      ap (λ t. slave_after station t ds) (met s d seen.0 o.0 ∙ ap (λ b. record { node = s.node; registers = if b then registers_met s.registers d.access else s.registers }) nay.0) ∙ stands s ds seen.1 o.1 nay.1

  after-append : (s : Slave V M) (xs ys : List (Datagram M)) → slave_after station s (xs ++ ys) ≡ slave_after station (slave_after station s xs) ys
  after-append s [] ys = refl
  after-append s (d ∷ xs) ys = after-append (slave_meets station s d) xs ys

  -- THE WORD is met: the slave stands as it was, but for the word
  pub returned : (s : Slave V M) (ds : List (Datagram M)) → ReturnsIt station s ds → slave_after station s ds ≡ worded s
  returned s ds w =
      let parts = split station w.before (w.word ∷ w.behind) (subst AreSeen w.all w.seen) (sym (ap (own station) w.all) ∙ w.none) in
      let o = nothing_own station w.word w.behind parts.1.1 in
      ap (slave_after station s) w.all ∙ after-append s w.before (w.word ∷ w.behind)
      ∙ ap (λ t. slave_after station t (w.word ∷ w.behind)) (stands s w.before parts.0.0 parts.0.1 w.first)
      ∙ ap (λ t. slave_after station t w.behind) (met s w.word parts.1.0.0 o.0
      ∙ ap₂ (λ (b : Bool) (a : Access). record { node = s.node; registers = if b then registers_met s.registers a else s.registers }) w.meant w.access)
      ∙ stands (worded s) w.behind parts.1.0.1 o.1 (same_none s.registers (Some (1, true)) w.behind w.last)

  -- IT WAITS: the rest of the return leaves the slave
  closing_one : (s : Slave V M) (d : Datagram M) → IsSeen d → is_for station d.address ≡ false → IsClosing s.registers d → slave_meets station (worded s) d ≡ worded s
  closing_one s d seen e c = met (worded s) d seen e ∙ go c
    where
      again : (b : Bool) → record { node = s.node; registers = if b then registers_met (worded s).registers (Access.SetControl 1 true) else (worded s).registers } ≡ worded s
      again true = refl
      again false = refl

      reads : (b : Bool) → record { node = s.node; registers = if b then registers_met (worded s).registers Access.ReadState else (worded s).registers } ≡ worded s
      reads true = refl
      reads false = refl

      go : IsClosing s.registers d → record { node = s.node; registers = if is_meant (worded s).registers d.address then registers_met (worded s).registers d.access else (worded s).registers } ≡ worded s
      go (inl nay) = ap (λ b. record { node = s.node; registers = if b then registers_met (worded s).registers d.access else (worded s).registers }) (same_meant s.registers (Some (1, true)) d.address ∙ nay)
      go (inr (inl a)) = ap (λ k. record { node = s.node; registers = if is_meant (worded s).registers d.address then registers_met (worded s).registers k else (worded s).registers }) a ∙ again (is_meant (worded s).registers d.address)
      go (inr (inr a)) = ap (λ k. record { node = s.node; registers = if is_meant (worded s).registers d.address then registers_met (worded s).registers k else (worded s).registers }) a ∙ reads (is_meant (worded s).registers d.address)

  closing_frame : (s : Slave V M) (ds : List (Datagram M)) → AreSeen ds → own station ds ≡ [] → AreClosing s.registers ds → slave_after station (worded s) ds ≡ worded s
  closing_frame s [] seen none c = refl
  closing_frame s (d ∷ ds) seen none c =
      let o = nothing_own station d ds none in
      ap (λ t. slave_after station t ds) (closing_one s d seen.0 o.0 c.0) ∙ closing_frame s ds seen.1 o.1 c.1

  pub waits : (s : Slave V M) (fs : List (List (Datagram M))) → AllClose station s.registers fs → behind_all station (worded s) fs ≡ worded s
  waits s [] c = refl
  waits s (ds ∷ fs) c = ap (λ t. behind_all station t fs) (closing_frame s ds c.0.seen c.0.none c.0.closing) ∙ waits s fs c.1

-- THE STEP BEHIND clears the server that stood
pub ends : {V A M Q R : Type 0} (x : Exchange V A M Q R) (processor : Processor V) (c : Clearing V A) → IsClearing x c → (station : ℕ) (s : Slave V M) (ds : List (Datagram M)) (fs : List (List (Datagram M))) → ReturnsIt station s ds →
    AllClose station s.registers fs → (processor.carry (worded s).registers).state ≡ 1 → HasEnded x c.clear c.cleared s (steps_or_returns x processor c.clear (behind_all station (slave_after station s ds) fs))
ends x processor c clears station s ds fs w close init =
    let at : behind_all station (slave_after station s ds) fs ≡ worded s = ap (λ t. behind_all station t fs) (returned station s ds w) ∙ waits station s fs close in
    let test : ((processor.carry (worded s).registers).state == 1) ≡ true = ap (λ n. n == 1) init in
    subst (λ t. HasEnded x c.clear c.cleared s (steps_or_returns x processor c.clear t)) (sym at) (subst (λ b. HasEnded x c.clear c.cleared s (if b then record { node = node_returned c.clear s.node; registers = processor.carry (worded s).registers } else slave_steps x processor (worded s))) (sym test) (record { state = init; server = refl; app = clears s.node.server.server }))

-- a slave's own table lets it return to Init
pub carried : (table : Table) (r : Registers) → table r.state 1 ≡ None → (carry table (record r { control = Some (1, true) })).state ≡ 1
carried table r free = go r.refused
  where
    go : (refused : Option ℕ) → (word_carried table (record r { control = Some (1, true) }) refused (Some (1, true))).state ≡ 1
    go None = ap (λ o. (decided (record r { control = Some (1, true) }) 1 o).state) free
    go (Some code) = ap (λ o. (decided (record r { control = Some (1, true) }) 1 o).state) free

-- AND NOT BEFORE: a frame lost before the slave leaves it
pub not_before : {V M : Type 0} (after : ℕ) (before : Ring V M) (n : ℕ × Slave V M) (behind : Ring V M) (ds : List (Datagram M)) → after ≤ length before →
    ring_after (before ++ n ∷ behind) ds (RingFate.Lost after) ≡ first_meet after before ds ++ n ∷ behind
not_before zero before n behind ds le = refl
not_before (suc k) [] n behind ds le = absurd (omega (arith, le))
not_before (suc k) (m ∷ before) n behind ds le = ap (λ l. (m.0, slave_after m.0 m.1 ds) ∷ l) (not_before k before n behind (frame_after m.0 m.1 ds) (omega (arith, le)))
