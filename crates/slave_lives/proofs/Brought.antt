-- A FIRST BRING-UP is an opening whose mailboxes were never full: its steps and its end are those of a reopening.
use Rattle.std.proofs.Common.{◌≡◌, inr, ℕ, ◌<◌, ◌==◌, Bool, false, Ok, refl, ap, ap₂, sym, ◌∙◌}
use Rattle.std.specs.Prelude.{Option, Some, None, option_map}
use Rattle.frames_seen.specs.of_esc_registers.declared.registers.Registers as Esc
use Rattle.frames_seen.specs.of_link_model.Link.{new_link}
use Rattle.frames_seen.specs.of_link_model.Slave.{Node}
use Rattle.frames_seen.specs.of_link_mails.Body.{Body, uncounted}
use Rattle.frames_seen.specs.of_mailbox_slave.Kept.{Kept}
use Rattle.frames_seen.specs.of_mailbox_slave.Node.{node_of, server_of}
use Rattle.frames_seen.specs.of_esc_registers.Registers.{are_areas_right}
use Rattle.frames_seen.specs.of_segment_model.Slaves.{Registers}
use Rattle.frames_seen.specs.of_state_model.States
use Rattle.frames_seen.specs.Shows.{slave_table}
use Rattle.frames_seen.specs.of_frame_view.View.{Lens}
use Rattle.frames_seen.specs.Slaves.{registers_seen}
use Rattle.slave_lives.specs.Steps.{Running, KeepsOthers, HasStepped, node_steps, word_carried}
use Rattle.slave_lives.specs.Opening.{Plan, IsPlan, IsBringing}
use Rattle.slave_lives.specs.Returning.{IsReturned}
use Rattle.slave_lives.proofs.Brings.{out_empty, in_empty}
use Rattle.slave_lives.proofs.Openings.{idle_step}
use Rattle.slave_lives.proofs.Turning.{the_box, step_returns, start_kept}

-- no word waits behind a step
carried_none : (table : States.Table) (now : Registers) → now.refused ≡ None → (States.carry table now).control ≡ None
carried_none table now refused = go now.control refl
  where
    is : (o : Option (ℕ × Bool)) → now.control ≡ o → States.carry table now ≡ States.word_carried table now None o
    is o e = ap₂ (λ a b. States.word_carried table now a b) refused e

    decides : (found : Option ℕ) (target : ℕ) → (States.decided now target found).control ≡ None
    decides None target = refl
    decides (Some code) target = refl

    go : (o : Option (ℕ × Bool)) → now.control ≡ o → (States.carry table now).control ≡ None
    go None e = ap (λ (x : Registers). x.control) (is None e) ∙ e
    go (Some w) e = ap (λ (x : Registers). x.control) (is (Some w) e) ∙ decides (table now.state w.0) w.0

pub returned : {S : Type 0} (u : Running S) (boot : Bool) (lens : ℕ → Lens) (p : Plan) → IsPlan boot lens p → (n : ℕ) (r : Esc.Registers) (k : Kept) (s : S) → IsBringing p n r k s → u.clear s ≡ s → u.next s ≡ None → IsReturned u p n r k s
returned {S = S} u boot lens p plan n r k s b cleared waits = record {
  box = the_box k r s s None None false false b.node;
  cleared = cleared;
  waits = waits;
  out = b.out;
  back = b.back;
  status = b.status;
  code = b.code;
  refused = b.refused;
  state = b.state;
  word = λ w is. inr (b.word w is);
  off_out = λ off. out_empty boot lens p plan n r k s b;
  off_in = λ off. in_empty boot lens p plan n r k s b;
  called = b.called;
  station = b.station;
  out_empty = λ late. out_empty boot lens p plan n r k s b;
  in_empty = λ late. (in_empty boot lens p plan n r k s b, ap (λ (x : Node Body S). x.inn.request) b.node);
  first = b.first;
  second = b.second;
  acknowledged = λ is. ap (λ (x : Node Body S). x.inn.acknowledge) b.node;
}

pub step_brings : {S : Type 0} (u : Running S) (boot : Bool) (lens : ℕ → Lens) (p : Plan) → IsPlan boot lens p → (n : ℕ) (r q : Esc.Registers) (k j : Kept) (s t : S) →
    IsBringing p n r k s → u.next s ≡ None → u.clear s ≡ s → KeepsOthers r q → HasStepped u boot r q k j s t → q.al_status < 32 → q.al_code < 65536 → IsBringing p n q j t × (t ≡ s)
step_brings {S = S} u boot lens p plan n r q k j s t b none clear keeps steps status code =
    let v = server_of u.take u.next u.rest (word_carried boot r).state in
    let init = (registers_seen r).state == 1 in
    let to_init = (word_carried boot r).state == 1 in
    let next : v.next s ≡ None = ap (λ x. option_map (λ m. Ok (uncounted m)) x) none in
    let node : node_of j q t ≡ (new_link s).node = steps.node ∙ ap (λ (x : Node Body S). node_steps init to_init v u.clear x) b.node ∙ idle_step init to_init v u.clear s next clear in
    let same : t ≡ s = ap (λ (x : Node Body S). x.server) node in
    let a = step_returns u boot lens p plan n r q k j s t (returned u boot lens p plan n r k s b clear none) keeps steps status code in (
      record {
        node = node ∙ ap (λ x. (new_link {B = Body} x).node) (sym same);
        out = a.out;
        back = a.back;
        status = a.status;
        code = a.code;
        refused = a.refused;
        state = a.state;
        word = λ w is. absurd (let none_ : None ≡ Some w = sym (ap (λ (x : Registers). x.control) steps.registers ∙ carried_none (slave_table boot (are_areas_right r)) (registers_seen r) b.refused) ∙ is in cc);
        called = a.called;
        station = a.station;
        first = a.first;
        second = a.second;
      },
      same,
    )

pub start_stays : {S : Type 0} (u : Running S) (boot : Bool) (lens : ℕ → Lens) (p : Plan) → IsPlan boot lens p → (n : ℕ) (r q : Esc.Registers) (k j : Kept) (s t : S) →
    IsBringing p n r k s → u.next s ≡ None → u.clear s ≡ s → HasStepped u boot r q k j s t → (registers_seen r).state ≡ p.start → (registers_seen q).state ≡ p.start
start_stays u boot lens p plan n r q k j s t b none clear steps is = start_kept u boot lens p plan n r q k j s t (returned u boot lens p plan n r k s b clear none) steps is
