-- THE AL CONTROL WORD, as the processor carries it out over registers, is what the model carries out over what they show.
use Rattle.std.proofs.Common.{◌≡◌, ◌≢◌, ◌⊎◌, inl, inr, ℕ, ◌+◌, ◌<◌, ◌==◌, ◌&&◌, ◌||◌, Bool, true, false, not, refl, ap, ap₂, sym, ◌∙◌, arith}
use Rattle.std.specs.Prelude.{Option, Some, None, if◌then◌else◌}
use Rattle.std.proofs.lemmas.Bool.{eqb-true, or_cases}
use Rattle.frames_seen.specs.of_ec_fields.Fields.{bits_of}
use Rattle.frames_seen.specs.of_al_state.declared.machine.Al.{Al}
use Rattle.frames_seen.specs.of_al_state.declared.machine.Asked.TheVariants.{Ignored}
use Rattle.frames_seen.specs.of_al_state.Request.{is_state, is_change, refusal_of, carried, request_of}
use Rattle.frames_seen.specs.of_esc_registers.declared.registers.Registers as Esc
use Rattle.frames_seen.specs.of_esc_registers.Registers.{are_areas_right}
use Rattle.frames_seen.specs.of_segment_model.Slaves.{Registers}
use Rattle.frames_seen.specs.of_state_model.States as States
use Rattle.frames_seen.specs.Shows.{Shows, slave_table, error_of, word_seen}
use Rattle.frames_seen.proofs.Carries.{carries, not_zero}
use Rattle.frames_seen.specs.of_slave_node.Step.{status_word, shown, al_asked, al_behind, word_behind}
use Rattle.frames_seen.specs.Slaves.{registers_seen}
use Rattle.slave_lives.specs.Steps.{KeepsOthers, word_carried}
use Rattle.slave_lives.specs.Nodes.{IsShown}

-- a state fits four bits
pub state_small : (s : ℕ) → is_state s ≡ true → s < 16
state_small s is = go (or_cases (s == 1 || s == 2 || s == 3 || s == 4) (s == 8) is)
  where
    at : (n : ℕ) → (s == n) ≡ true → n < 16 → s < 16
    at n e f = let same : s ≡ n = eqb-true s n e in omega arith

    one : ((s == 1) ≡ true) ⊎ ((s == 2) ≡ true) → s < 16
    one (inl e) = at 1 e (omega arith)
    one (inr e) = at 2 e (omega arith)

    two : ((s == 1 || s == 2) ≡ true) ⊎ ((s == 3) ≡ true) → s < 16
    two (inl e) = one (or_cases (s == 1) (s == 2) e)
    two (inr e) = at 3 e (omega arith)

    three : ((s == 1 || s == 2 || s == 3) ≡ true) ⊎ ((s == 4) ≡ true) → s < 16
    three (inl e) = two (or_cases (s == 1 || s == 2) (s == 3) e)
    three (inr e) = at 4 e (omega arith)

    go : ((s == 1 || s == 2 || s == 3 || s == 4) ≡ true) ⊎ ((s == 8) ≡ true) → s < 16
    go (inl e) = three (or_cases (s == 1 || s == 2 || s == 3) (s == 4) e)
    go (inr e) = at 8 e (omega arith)

-- the error that a code is
abbrev error_seen : ℕ → Option ℕ
error_seen code = if code == 0 then None else Some code

-- what the status word says
pub state_in : (al : Al) → is_state al.state ≡ true → bits_of (status_word al) 0 4 ≡ al.state
state_in al is = go (al.error == 0)
  where
    go : (b : Bool) → bits_of (al.state + (if b then 0 else 16)) 0 4 ≡ al.state
    go true = omega (arith, state_small al.state is)
    go false = omega (arith, state_small al.state is)

refused_in : (al : Al) → is_state al.state ≡ true → (if bits_of (status_word al) 4 1 == 1 then Some al.error else None) ≡ error_seen al.error
refused_in al is = go (al.error == 0)
  where
    none : bits_of (al.state + 0) 4 1 ≡ 0
    none = omega (arith, state_small al.state is)

    one : bits_of (al.state + 16) 4 1 ≡ 1
    one = omega (arith, state_small al.state is)

    go : (b : Bool) → (if bits_of (al.state + (if b then 0 else 16)) 4 1 == 1 then Some al.error else None) ≡ (if b then None else Some al.error)
    go true = ap (λ (n : ℕ). if n == 1 then Some al.error else None) none
    go false = ap (λ (n : ℕ). if n == 1 then Some al.error else None) one

pub status_small : (al : Al) → is_state al.state ≡ true → status_word al < 32
status_small al is = go (al.error == 0)
  where
    go : (b : Bool) → al.state + (if b then 0 else 16) < 32
    go true = omega (arith, state_small al.state is)
    go false = omega (arith, state_small al.state is)

error_back : (code : ℕ) → error_of (error_seen code) ≡ code
error_back code = go (code == 0) refl
  where
    go : (b : Bool) → (code == 0) ≡ b → error_of (if b then None else Some code) ≡ code
    go true e = sym (eqb-true code 0 e)
    go false e = refl

error_coded : (code given : ℕ) → error_seen code ≡ Some given → given ≢ 0
error_coded code given = go (code == 0) refl
  where
    go : (b : Bool) → (code == 0) ≡ b → (if b then None else Some code) ≡ Some given → given ≢ 0
    go true e is = absurd (cc)
    go false e is = λ zero_. let same : code ≡ given = cc in let no : false ≡ true = sym e ∙ ap (λ (n : ℕ). n == 0) (same ∙ zero_) in cc

-- the AL state behind a status
abbrev seen_as : Esc.Registers → Al → Bool → Registers
seen_as r al unhandled = registers_seen (record r { unhandled = unhandled; al_status = status_word al; al_code = al.error })

-- registers that show an AL state, as the model sees them
pub shows_state : (r : Esc.Registers) (al : Al) → IsShown r al → (registers_seen r).state ≡ al.state
shows_state r al s = ap (λ (n : ℕ). bits_of n 0 4) s.status ∙ state_in al s.state

shows_refused : (r : Esc.Registers) (al : Al) → IsShown r al → (registers_seen r).refused ≡ error_seen al.error
shows_refused r al s = ap₂ (λ (n c : ℕ). if bits_of n 4 1 == 1 then Some c else None) s.status s.code ∙ refused_in al s.state

shows_both : (r : Esc.Registers) (al : Al) → IsShown r al → Shows al (registers_seen r)
shows_both r al s = record {
  state = sym (shows_state r al s);
  error = sym (ap error_of (shows_refused r al s) ∙ error_back al.error);
  coded = λ code is. error_coded al.error code (sym (shows_refused r al s) ∙ is);
}

refused_by : (al : Al) (c : Registers) → Shows al c → c.refused ≡ error_seen al.error
refused_by al c s = go c.refused s.error s.coded
  where
    go : (o : Option ℕ) → al.error ≡ error_of o → ((code : ℕ) → o ≡ Some code → code ≢ 0) → o ≡ error_seen al.error
    go None e coded = sym (ap error_seen e)
    go (Some code) e coded = sym (ap error_seen e ∙ ap (λ (b : Bool). if b then None else Some code) (not_zero code (coded code refl)))

-- what the model carries out changes neither station nor managers
record Stays (r q : Registers) : Type 0 where
  station : q.station ≡ r.station
  first : q.first ≡ r.first
  second : q.second ≡ r.second

carry_stays : (table : States.Table) (r : Registers) → Stays r (States.carry table r)
carry_stays table r = go r.refused r.control
  where
    decides : (found : Option ℕ) (target : ℕ) → Stays r (States.decided r target found)
    decides None target = record { station = refl; first = refl; second = refl }
    decides (Some code) target = record { station = refl; first = refl; second = refl }

    flagged : (b : Bool) (w : ℕ × Bool) → Stays r (if b then States.decided r w.0 (table r.state w.0) else record r { control = None })
    flagged true w = decides (table r.state w.0) w.0
    flagged false w = record { station = refl; first = refl; second = refl }

    go : (refused : Option ℕ) (control : Option (ℕ × Bool)) → Stays r (States.word_carried table r refused control)
    go None None = record { station = refl; first = refl; second = refl }
    go (Some code) None = record { station = refl; first = refl; second = refl }
    go None (Some w) = decides (table r.state w.0) w.0
    go (Some code) (Some w) = flagged w.1 w

no_word : (table : States.Table) (r : Registers) (refused : Option ℕ) → States.word_carried table r refused None ≡ r
no_word table r None = refl
no_word table r (Some code) = refl

-- a state that a word asks for and that isn't refused is one of the five
abbrev refusal_by : Bool → Bool → Bool → Bool → Bool → Option ℕ
refusal_by a b c d e = if a then Some 18 else if b then Some 19 else if c then Some 17 else if d then Some 21 else if e then Some 22 else None

state_by : (a b c d e : Bool) → refusal_by (not a) b c d e ≡ None → a ≡ true
state_by true b c d e is = refl
state_by false b c d e is = absurd (cc)

code_by : (code : ℕ) (a b c d e : Bool) → refusal_by a b c d e ≡ Some code → code < 65536
code_by code true b c d e is = let same : 18 ≡ code = cc in omega arith
code_by code false true c d e is = let same : 19 ≡ code = cc in omega arith
code_by code false false true d e is = let same : 17 ≡ code = cc in omega arith
code_by code false false false true e is = let same : 21 ≡ code = cc in omega arith
code_by code false false false false true is = let same : 22 ≡ code = cc in omega arith
code_by code false false false false false is = absurd (cc)

record IsAl (al : Al) : Type 0 where
  state : is_state al.state ≡ true
  error : al.error < 65536

asked_al : (al : Al) (control : ℕ) (boot areas : Bool) → IsAl al → IsAl (request_of al control boot areas).0
asked_al al control boot areas is = go (not (al.error == 0) && bits_of control 4 1 == 0)
  where
    to : ℕ
    to = bits_of control 0 4

    made : (v : Option ℕ) → refusal_of al.state (bits_of control 0 4) boot areas ≡ v → IsAl (carried al (bits_of control 0 4) v).0
    made None e = record {
      state = state_by (is_state (bits_of control 0 4)) (bits_of control 0 4 == 3 && not boot) (not (is_change al.state (bits_of control 0 4))) (al.state == 1 && bits_of control 0 4 == 3 && not areas) (al.state == 1 && bits_of control 0 4 == 2 && not areas) e;
      error = omega arith;
    }
    made (Some code) e = record {
      state = is.state;
      error = code_by code (not (is_state (bits_of control 0 4))) (bits_of control 0 4 == 3 && not boot) (not (is_change al.state (bits_of control 0 4))) (al.state == 1 && bits_of control 0 4 == 3 && not areas) (al.state == 1 && bits_of control 0 4 == 2 && not areas) e;
    }

    go : (b : Bool) → IsAl (if b then (al, Ignored) else carried al (bits_of control 0 4) (refusal_of al.state (bits_of control 0 4) boot areas)).0
    go true = is
    go false = made (refusal_of al.state (bits_of control 0 4) boot areas) refl

-- THE WORD CARRIED OUT: the registers show the AL state that follows, as the model carries it out, and all else stays
pub record Carried (boot : Bool) (r : Esc.Registers) (al : Al) (q : Esc.Registers) (to : Al) : Type 0 where
  pub shows : IsShown q to
  pub seen : registers_seen q ≡ word_carried boot r
  pub keeps : KeepsOthers r q

pub carried_out : (boot : Bool) (r : Esc.Registers) (al : Al) → IsShown r al → Carried boot r al (word_behind boot r al) (al_behind boot r al)
carried_out boot r al s = go r.unhandled refl
  where
    table : States.Table
    table = slave_table boot (are_areas_right r)

    go : (b : Bool) → r.unhandled ≡ b → Carried boot r al (if b then shown r (al_asked boot r al) else r) (if b then al_asked boot r al else al)
    go false e = record {
      shows = s;
      seen = sym (ap (λ c. States.word_carried (slave_table boot (are_areas_right r)) (registers_seen r) (registers_seen r).refused c) (ap (λ (b : Bool). if b then Some (word_seen r.al_control) else None) e) ∙ no_word (slave_table boot (are_areas_right r)) (registers_seen r) (registers_seen r).refused);
      keeps = record { others = refl; len = refl };
    }
    go true e =
        let to = al_asked boot r al in
        let word : (registers_seen r).control ≡ Some (word_seen r.al_control) = ap (λ (b : Bool). if b then Some (word_seen r.al_control) else None) e in
        let made = carries boot (are_areas_right r) al (registers_seen r) r.al_control (shows_both r al s) word in
        let is = asked_al al r.al_control boot (are_areas_right r) (record { state = s.state; error = s.error }) in
        let stays = carry_stays (slave_table boot (are_areas_right r)) (registers_seen r) in
        let state : bits_of (status_word to) 0 4 ≡ (word_carried boot r).state = state_in to is.state ∙ made.0.state in
        let refused : (if bits_of (status_word to) 4 1 == 1 then Some to.error else None) ≡ (word_carried boot r).refused = refused_in to is.state ∙ sym (refused_by to (word_carried boot r) made.0) in
        record {
          shows = record { status = refl; code = refl; state = is.state; error = is.error };
          seen = λ i. record { station = sym stays.station i; first = sym stays.first i; second = sym stays.second i; control = sym made.1 i; state = state i; refused = refused i };
          keeps = record { others = refl; len = refl };
        }
