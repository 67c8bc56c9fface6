-- A REOPENING: the processor's steps, the way into Init, and the end.
use Rattle.std.proofs.Common.{◌≡◌, ◌⊎◌, inl, inr, ℕ, ◌<◌, ◌==◌, ◌&&◌, ◌||◌, Bool, true, false, List, [], ◌∷◌, ◌++◌, length, Ok, refl, ap, ap₂, sym, ◌∙◌, subst, arith}
use Rattle.std.specs.Prelude.{if◌then◌else◌, Option, Some, None, option_map}
use Rattle.std.proofs.lemmas.Bool.{eq-eqb, eqb-true, and_parts, and_from, or_cases}
use Rattle.frames_seen.specs.of_datagrams.Datagram as Raw
use Rattle.frames_seen.specs.of_esc_registers.declared.registers.Registers as Esc
use Rattle.frames_seen.specs.of_esc_registers.Manager.{is_right, is_enabled}
use Rattle.frames_seen.specs.of_esc_registers.Registers.{are_areas_right}
use Rattle.frames_seen.specs.of_al_state.Request.{is_state}
use Rattle.frames_seen.specs.of_slave_node.Passing.{passed, registers_after}
use Rattle.frames_seen.specs.of_link_model.Mails.{LinkMail}
use Rattle.frames_seen.specs.of_link_model.Link.{new_link}
use Rattle.frames_seen.specs.of_link_model.Slave.{Node, Server, node_look, node_serve}
use Rattle.frames_seen.specs.of_link_mails.Body.{Body, link_read, uncounted}
use Rattle.frames_seen.specs.of_mailbox_mail.Mail.{mail_read}
use Rattle.frames_seen.specs.of_mailbox_slave.Kept.{Kept}
use Rattle.frames_seen.specs.of_mailbox_slave.Registers.{request_of, acknowledge_of, out_box, in_box}
use Rattle.frames_seen.specs.of_mailbox_slave.Node.{node_of, server_of}
use Rattle.frames_seen.specs.of_segment_model.Slaves.{Registers}
use Rattle.frames_seen.specs.of_state_model.States
use Rattle.frames_seen.specs.Shows.{slave_table}
use Rattle.frames_seen.specs.of_frame_view.View.{Lens}
use Rattle.frames_seen.specs.Slaves.{registers_seen, IsOpen}
use Rattle.slave_lives.specs.Steps.{Running, Stands, KeepsOthers, HasStepped, node_steps, node_answered, node_cleared, word_carried}
use Rattle.slave_lives.specs.Opening.{Plan, IsPlan, IsAccess, IsOpened, AtMostOne, JustOne}
use Rattle.slave_lives.specs.Returning.{Clears, IsNewBox, IsReturned, IsFrozen}
use Rattle.slave_lives.proofs.Openings.{allowed, the_access, none_moves}
use Rattle.frames_seen.proofs.Owns.{unmoved}
use Rattle.frames_seen.proofs.Numbers.{word_back}
use Rattle.byteorder.specs.Endian.{little_bytes}
use Rattle.frames_seen.specs.of_ec_fields.Fields.{number_at, bits_of}

-- an empty mailbox
no_out : (r : Esc.Registers) → r.out_manager.full ≡ false → out_box r ≡ None
no_out r e = ap (λ b. if b then Some (link_read (mail_read r.out_manager.area)) else None) e

no_in : (r : Esc.Registers) → r.in_manager.full ≡ false → in_box r ≡ None
no_in r e = ap (λ b. if b then Some (link_read (mail_read r.in_manager.area)) else None) e

-- a node with a new box
abbrev pub renewed : {S : Type 0} → Option (LinkMail Body) → Option (LinkMail Body) → Bool → Bool → S → Node Body S
renewed out inn request acknowledge s = record {
  out = record { box = out; last_taken = 0 };
  inn = record { box = inn; offered = None; again = false; last_read = None; withdrawn = None; newest = 0; request = request; acknowledge = acknowledge };
  server = s;
}

pub new_node : {S : Type 0} (k : Kept) (r : Esc.Registers) (s : S) → IsNewBox k → node_of k r s ≡ renewed (out_box r) (in_box r) (request_of r) (acknowledge_of r) s
new_node k r s b = λ i. record {
  out = record { box = out_box r; last_taken = b.last_taken i };
  inn = record { box = in_box r; offered = b.offers i; again = b.again i; last_read = b.last_read i; withdrawn = b.withdrawn i; newest = b.newest i; request = request_of r; acknowledge = acknowledge_of r };
  server = s;
}

-- the other way round
pub the_box : {S : Type 0} (k : Kept) (r : Esc.Registers) (s t : S) (out inn : Option (LinkMail Body)) (request acknowledge : Bool) → node_of k r s ≡ renewed out inn request acknowledge t → IsNewBox k
the_box {S = S} k r s t out inn request acknowledge e = record {
  last_taken = ap (λ (n : Node Body S). n.out.last_taken) e;
  offers = ap (λ (n : Node Body S). n.inn.offered) e;
  again = ap (λ (n : Node Body S). n.inn.again) e;
  last_read = ap (λ (n : Node Body S). n.inn.last_read) e;
  withdrawn = ap (λ (n : Node Body S). n.inn.withdrawn) e;
  newest = ap (λ (n : Node Body S). n.inn.newest) e;
}

-- a new box answers the repeat request and does nothing else
pub answers : {S : Type 0} (out inn : Option (LinkMail Body)) (request acknowledge : Bool) (s : S) → node_answered (renewed out inn request acknowledge s) ≡ renewed out inn request request s
answers out inn true true s = refl
answers out inn true false s = refl
answers out inn false true s = refl
answers out inn false false s = refl

looks : {S : Type 0} (out inn : Option (LinkMail Body)) (request acknowledge : Bool) (s : S) → node_look (renewed out inn request acknowledge s) ≡ renewed out inn request request s
looks out (Some m) request acknowledge s = answers out (Some m) request acknowledge s
looks out None request acknowledge s = answers out None request acknowledge s

module _ {S : Type 0} (v : Server Body S) (clear : S → S) where
  pub into_init : (from : Bool) (out inn : Option (LinkMail Body)) (request acknowledge : Bool) (s : S) → clear s ≡ s → node_steps from true v clear (renewed out inn request acknowledge s) ≡ renewed out inn request request s
  into_init true out inn request acknowledge s same = ap (node_cleared clear) (answers out inn request acknowledge s) ∙ ap (renewed out inn request request) same
  into_init false out inn request acknowledge s same = ap (node_cleared clear) (looks out inn request acknowledge s) ∙ ap (renewed out inn request request) same

  serves_nothing : (request : Bool) (s : S) → v.next s ≡ None → node_serve v (renewed None None request request s) ≡ renewed None None request request s
  serves_nothing request s none = rw none refl

  into_state : (from : Bool) (request acknowledge : Bool) (s : S) → v.next s ≡ None → node_steps from false v clear (renewed None None request acknowledge s) ≡ renewed None None request request s
  into_state true request acknowledge s none = ap (node_serve v) (answers None None request acknowledge s) ∙ serves_nothing request s none
  into_state false request acknowledge s none = ap (node_serve v) (looks None None request acknowledge s) ∙ serves_nothing request s none

-- two boxes that are seen alike are full alike
full_same : {X : Type 0} (b c : Bool) (x y : X) → (if b then Some x else None) ≡ (if c then Some y else None) → b ≡ c
full_same true true x y e = refl
full_same false false x y e = refl
full_same true false x y e = absurd (cc)
full_same false true x y e = absurd (cc)

-- what the word that waits makes of Init
record Turned (p : Plan) (n : ℕ) (now : Registers) : Type 0 where
  refused : now.refused ≡ None
  state : (now.state ≡ 1) ⊎ ((7 < n) × (now.state ≡ p.start))
  word : (w : ℕ × Bool) → now.control ≡ Some w → ((w ≡ (1, true)) × (now.state ≡ 1)) ⊎ ((w ≡ (p.start, false)) × (7 < n))

turns : (boot : Bool) (p : Plan) (n : ℕ) (now : Registers) (right : Bool) → (p.start ≡ 2) ⊎ ((p.start ≡ 3) × (boot ≡ true)) → (7 < n → right ≡ true) → Turned p n now → Turned p n (States.carry (slave_table boot right) now)
turns boot p n now right allows rights c = go now.control refl
  where
    is : (o : Option (ℕ × Bool)) → now.control ≡ o → States.carry (slave_table boot right) now ≡ States.word_carried (slave_table boot right) now None o
    is o e = ap₂ (λ a b. States.word_carried (slave_table boot right) now a b) c.refused e

    either_state : (now.state ≡ 1) ⊎ ((7 < n) × (now.state ≡ p.start)) → (now.state ≡ 1) ⊎ (now.state ≡ p.start)
    either_state (inl x) = inl x
    either_state (inr y) = inr y.1

    by_word : (w : ℕ × Bool) → now.control ≡ Some w → ((w ≡ (1, true)) × (now.state ≡ 1)) ⊎ ((w ≡ (p.start, false)) × (7 < n)) → Turned p n (States.carry (slave_table boot right) now)
    by_word w e (inl init) =
        let target : w.0 ≡ 1 = ap (λ (x : ℕ × Bool). x.0) init.0 in
        let grants : slave_table boot right now.state w.0 ≡ None = ap₂ (λ a b. slave_table boot right a b) init.1 target in
        subst (λ q. Turned p n q) (sym (is (Some w) e ∙ ap₂ (λ a b. States.decided now a b) target grants))
        (record { refused = refl; state = inl refl; word = λ x none. absurd (cc) })
    by_word w e (inr start) =
        let target : w.0 ≡ p.start = ap (λ (x : ℕ × Bool). x.0) start.0 in
        let grants : slave_table boot right now.state w.0 ≡ None = (λ i. slave_table boot (rights start.1 i) now.state (target i)) ∙ allowed boot now.state p.start allows (either_state c.state) in
        subst (λ q. Turned p n q) (sym (is (Some w) e ∙ ap₂ (λ a b. States.decided now a b) target grants))
        (record { refused = refl; state = inr (start.1, refl); word = λ x none. absurd (cc) })

    go : (o : Option (ℕ × Bool)) → now.control ≡ o → Turned p n (States.carry (slave_table boot right) now)
    go None e = subst (λ q. Turned p n q) (sym (is None e)) c
    go (Some w) e = by_word w e (c.word w e)

not_init : (start : ℕ) (boot : Bool) → (start ≡ 2) ⊎ ((start ≡ 3) × (boot ≡ true)) → (start == 1) ≡ false
not_init start boot (inl two) = ap (λ n. n == 1) two
not_init start boot (inr three) = ap (λ n. n == 1) three.0

-- A STEP while an access is in hand
module _ {S : Type 0} (u : Running S) (boot : Bool) (lens : ℕ → Lens) (p : Plan) (plan : IsPlan boot lens p) (n : ℕ) (r q : Esc.Registers) (k j : Kept) (s t : S) where
  rights : IsReturned u p n r k s → 7 < n → are_areas_right r ≡ true
  rights b late = and_from (is_right 4096 38 r.out_manager) (is_right 6144 34 r.in_manager) (b.first (omega arith)) (b.second late)

  stepped_node : IsReturned u p n r k s → HasStepped u boot r q k j s t → Turned p n (word_carried boot r) → node_of j q t ≡ renewed (out_box r) (in_box r) (request_of r) (request_of r) s
  stepped_node b steps c = steps.node ∙ ap (λ (x : Node Body S). node_steps from to v u.clear x) (new_node k r s b.box) ∙ go c.state
    where
      v : Server Body S
      v = server_of u.take u.next u.rest (word_carried boot r).state

      from : Bool
      from = (registers_seen r).state == 1

      to : Bool
      to = (word_carried boot r).state == 1

      go : ((word_carried boot r).state ≡ 1) ⊎ ((7 < n) × ((word_carried boot r).state ≡ p.start)) →
          node_steps from to v u.clear (renewed (out_box r) (in_box r) (request_of r) (acknowledge_of r) s) ≡ renewed (out_box r) (in_box r) (request_of r) (request_of r) s
      go (inl init) =
          ap (λ x. node_steps from x v u.clear (renewed (out_box r) (in_box r) (request_of r) (acknowledge_of r) s)) (eq-eqb (word_carried boot r).state 1 init)
          ∙ into_init v u.clear from (out_box r) (in_box r) (request_of r) (acknowledge_of r) s b.cleared
      go (inr up) =
          let late = up.0 in
          let off : to ≡ false = ap (λ x. x == 1) up.1 ∙ not_init p.start boot plan.start in
          let out : out_box r ≡ None = no_out r (b.out_empty (omega arith)) in
          let inn : in_box r ≡ None = no_in r ((b.in_empty (omega arith)).0) in
          let next : v.next s ≡ None = ap (λ x. option_map (λ m. Ok (uncounted m)) x) b.waits in
          ap (λ x. node_steps from x v u.clear (renewed (out_box r) (in_box r) (request_of r) (acknowledge_of r) s)) off
          ∙ ap₂ (λ x y. node_steps from false v u.clear (renewed x y (request_of r) (acknowledge_of r) s)) out inn
          ∙ into_state v u.clear from (request_of r) (acknowledge_of r) s next
          ∙ ap₂ (λ x y. renewed x y (request_of r) (request_of r) s) (sym out) (sym inn)

  -- its server stays
  pub step_server : IsReturned u p n r k s → HasStepped u boot r q k j s t → t ≡ s
  step_server b steps =
      let c = turns boot p n (registers_seen r) (are_areas_right r) plan.start (rights b) (record { refused = b.refused; state = b.state; word = b.word }) in
      ap (λ (x : Node Body S). x.server) (stepped_node b steps c)

  pub step_returns : IsReturned u p n r k s → KeepsOthers r q → HasStepped u boot r q k j s t → q.al_status < 32 → q.al_code < 65536 → IsReturned u p n q j t
  step_returns b keeps steps status code =
      let c = turns boot p n (registers_seen r) (are_areas_right r) plan.start (rights b) (record { refused = b.refused; state = b.state; word = b.word }) in
      let d = subst (Turned p n) (sym steps.registers) c in
      let node = stepped_node b steps c in
      let same : t ≡ s = ap (λ (x : Node Body S). x.server) node in
      let outward : q.out_manager.full ≡ r.out_manager.full = full_same q.out_manager.full r.out_manager.full _ _ (ap (λ (x : Node Body S). x.out.box) node) in
      let inward : q.in_manager.full ≡ r.in_manager.full = full_same q.in_manager.full r.in_manager.full _ _ (ap (λ (x : Node Body S). x.inn.box) node) in
      let asks : request_of q ≡ request_of r = ap (λ (x : Node Body S). x.inn.request) node in
      let said : acknowledge_of q ≡ request_of r = ap (λ (x : Node Body S). x.inn.acknowledge) node in
      let out_act : q.out_manager.activate ≡ r.out_manager.activate = ap (λ x. x.out_manager.activate) keeps.others in
      let in_act : q.in_manager.activate ≡ r.in_manager.activate = ap (λ x. x.in_manager.activate) keeps.others in
      record {
        box = the_box j q t s (out_box r) (in_box r) (request_of r) (request_of r) node;
        cleared = ap u.clear same ∙ b.cleared ∙ sym same;
        waits = ap u.next same ∙ b.waits;
        out = ap (λ x. length x.out_manager.area) keeps.others ∙ b.out;
        back = keeps.len ∙ b.back;
        status = status;
        code = code;
        refused = d.refused;
        state = d.state;
        word = d.word;
        off_out = λ off. outward ∙ b.off_out (sym (ap is_enabled out_act) ∙ off);
        off_in = λ off. inward ∙ b.off_in (sym (ap is_enabled in_act) ∙ off);
        called = subst (λ x. (x ≡ 0) ⊎ (x ≡ p.station)) (sym (ap (λ x. x.station) keeps.others)) b.called;
        station = λ late. ap (λ x. x.station) keeps.others ∙ b.station late;
        out_empty = λ late. outward ∙ b.out_empty late;
        in_empty = λ late. (inward ∙ (b.in_empty late).0, asks ∙ (b.in_empty late).1);
        first = λ late. ap (λ x. is_right 4096 38 x.out_manager) keeps.others ∙ b.first late;
        second = λ late. in_kept keeps ∙ b.second late;
        acknowledged = λ is. said ∙ quiet d.state is;
      }
    where
      in_kept : KeepsOthers r q → is_right 6144 34 q.in_manager ≡ is_right 6144 34 r.in_manager
      in_kept keeps =
          let m = r.in_manager in
          ap (λ x. is_right 6144 34 x.in_manager) keeps.others
          ∙ ap (λ l. m.start == 6144 && m.length == l && m.control == 34 && is_enabled m.activate) keeps.len

      quiet : ((registers_seen q).state ≡ 1) ⊎ ((7 < n) × ((registers_seen q).state ≡ p.start)) → (registers_seen q).state ≡ p.start → request_of r ≡ false
      quiet (inl init) is = absurd (let one : p.start ≡ 1 = sym is ∙ init in let no_ : false ≡ true = sym (not_init p.start boot plan.start) ∙ eq-eqb p.start 1 one in cc)
      quiet (inr up) is = let late = up.0 in (b.in_empty (omega arith)).1

-- OPENED AGAIN
pub reopened : {S : Type 0} (u : Running S) (boot : Bool) (lens : ℕ → Lens) (p : Plan) → IsPlan boot lens p → (n : ℕ) → 7 < n → (r : Esc.Registers) (k : Kept) (s : S) → IsReturned u p n r k s → (registers_seen r).state ≡ p.start → IsOpened lens p r k s
reopened {S = S} u boot lens p plan n late r k s b is =
    let station = b.station (omega arith) in
    let empty = b.in_empty (omega arith) in
    let full : r.in_manager.full ≡ false = empty.0 in
    let out : out_box r ≡ None = no_out r (b.out_empty (omega arith)) in
    let inn : in_box r ≡ None = no_in r full in
    let node : node_of k r s ≡ (new_link s).node = new_node k r s b.box ∙ (λ i. renewed (out i) (inn i) (empty.1 i) (b.acknowledged is i) s) in
    record {
      opens = record {
        out = ap (λ a. (lens a).out) station ∙ plan.lens_out ∙ sym b.out;
        back = ap (λ a. (lens a).back) station ∙ plan.lens_back ∙ sym b.back;
        right = and_from (is_right 4096 38 r.out_manager) (is_right 6144 34 r.in_manager) (b.first (omega arith)) (b.second (omega arith));
        status = b.status;
        code = b.code;
        reads = λ yes_. absurd (let no_ : false ≡ true = sym full ∙ yes_ in cc);
      };
      station = station;
      node = node;
      stands = subst Stands (sym (ap (λ (x : Node Body S). x.inn) node)) (λ m e. absurd (cc));
      state = is;
      refused = b.refused;
      word = λ w e. go w (b.word w e);
    }
  where
    go : (w : ℕ × Bool) → ((w ≡ (1, true)) × ((registers_seen r).state ≡ 1)) ⊎ ((w ≡ (p.start, false)) × (7 < n)) → w ≡ (p.start, false)
    go w (inl init) = absurd (let one : p.start ≡ 1 = sym is ∙ init.1 in let no_ : false ≡ true = sym (not_init p.start boot plan.start) ∙ eq-eqb p.start 1 one in cc)
    go w (inr start) = start.0

-- INTO INIT: the step that carries out the word that waits in a frozen slave
returns_from : (boot right : Bool) (state : ℕ) → is_state state ≡ true → slave_table boot right state 1 ≡ None
returns_from boot right state is = go (or_cases (state == 1 || state == 2 || state == 3 || state == 4) (state == 8) is)
  where
    at : (n : ℕ) → (state == n) ≡ true → slave_table boot right n 1 ≡ None → slave_table boot right state 1 ≡ None
    at n e f = ap (λ x. slave_table boot right x 1) (eqb-true state n e) ∙ f

    one : ((state == 1) ≡ true) ⊎ ((state == 2) ≡ true) → slave_table boot right state 1 ≡ None
    one (inl e) = at 1 e refl
    one (inr e) = at 2 e refl

    two : ((state == 1 || state == 2) ≡ true) ⊎ ((state == 3) ≡ true) → slave_table boot right state 1 ≡ None
    two (inl e) = one (or_cases (state == 1) (state == 2) e)
    two (inr e) = at 3 e refl

    three : ((state == 1 || state == 2 || state == 3) ≡ true) ⊎ ((state == 4) ≡ true) → slave_table boot right state 1 ≡ None
    three (inl e) = two (or_cases (state == 1 || state == 2) (state == 3) e)
    three (inr e) = at 4 e refl

    go : ((state == 1 || state == 2 || state == 3 || state == 4) ≡ true) ⊎ ((state == 8) ≡ true) → slave_table boot right state 1 ≡ None
    go (inl e) = three (or_cases (state == 1 || state == 2 || state == 3) (state == 4) e)
    go (inr e) = at 8 e refl

pub step_freezes : {S : Type 0} (u : Running S) (boot : Bool) (lens : ℕ → Lens) (p : Plan) → IsPlan boot lens p → Clears u → (n : ℕ) → n < 3 → (r q : Esc.Registers) (k j : Kept) (s t : S) → IsFrozen lens p r →
    KeepsOthers r q → HasStepped u boot r q k j s t → q.al_status < 32 → q.al_code < 65536 → IsReturned u p n q j t × (t ≡ u.clear s)
step_freezes {S = S} u boot lens p plan clears n soon r q k j s t b keeps steps status code =
    let table = slave_table boot (are_areas_right r) in
    let now = registers_seen r in
    let carried : word_carried boot r ≡ record now { control = None; state = 1; refused = None } = ap (States.word_carried table now now.refused) b.word ∙ by_flag now.refused in
    let d : registers_seen q ≡ record now { control = None; state = 1; refused = None } = steps.registers ∙ carried in
    let to : ((word_carried boot r).state == 1) ≡ true = ap (λ (x : Registers). x.state == 1) carried in
    let v = server_of u.take u.next u.rest (word_carried boot r).state in
    let node : node_of j q t ≡ node_cleared u.clear (node_look (node_of k r s)) = steps.node ∙ ap₂ (λ x y. node_steps x y v u.clear (node_of k r s)) b.up to in
    let same : t ≡ u.clear s = ap (λ (x : Node Body S). x.server) node in
    let out_act : q.out_manager.activate ≡ r.out_manager.activate = ap (λ x. x.out_manager.activate) keeps.others in
    let in_act : q.in_manager.activate ≡ r.in_manager.activate = ap (λ x. x.in_manager.activate) keeps.others in
    let right = b.opens.right in (
      record {
        box = the_box j q t (u.clear s) (out_box r) (node_look (node_of k r s)).inn.box (node_look (node_of k r s)).inn.request (node_look (node_of k r s)).inn.request node;
        cleared = ap u.clear same ∙ clears.again s ∙ sym same;
        waits = ap u.next same ∙ clears.none s;
        out = ap (λ x. length x.out_manager.area) keeps.others ∙ sym b.opens.out ∙ ap (λ a. (lens a).out) b.station ∙ plan.lens_out;
        back = keeps.len ∙ sym b.opens.back ∙ ap (λ a. (lens a).back) b.station ∙ plan.lens_back;
        status = status;
        code = code;
        refused = ap (λ (x : Registers). x.refused) d;
        state = inl (ap (λ (x : Registers). x.state) d);
        word = λ w e. absurd (let none : None ≡ Some w = sym (ap (λ (x : Registers). x.control) d) ∙ e in cc);
        off_out = λ off. absurd (let no_ : false ≡ true = sym off ∙ ap is_enabled out_act ∙ out_on right in cc);
        off_in = λ off. absurd (let no_ : false ≡ true = sym off ∙ ap is_enabled in_act ∙ in_on right in cc);
        called = inr (ap (λ x. x.station) keeps.others ∙ b.station);
        station = λ late. absurd (omega arith);
        out_empty = λ late. absurd (omega arith);
        in_empty = λ late. absurd (omega arith);
        first = λ late. absurd (omega arith);
        second = λ late. absurd (omega arith);
        acknowledged = λ is. absurd (let one : p.start ≡ 1 = sym is ∙ ap (λ (x : Registers). x.state) d in let no_ : false ≡ true = sym (not_init p.start boot plan.start) ∙ eq-eqb p.start 1 one in cc);
      },
      same,
    )
  where
    decides : (found : Option ℕ) → found ≡ None → States.decided (registers_seen r) 1 found ≡ record (registers_seen r) { control = None; state = 1; refused = None }
    decides found e = ap (States.decided (registers_seen r) 1) e

    grants : slave_table boot (are_areas_right r) (registers_seen r).state 1 ≡ None
    grants = returns_from boot (are_areas_right r) (registers_seen r).state b.state

    by_flag : (o : Option ℕ) → States.word_carried (slave_table boot (are_areas_right r)) (registers_seen r) o (Some (1, true)) ≡ record (registers_seen r) { control = None; state = 1; refused = None }
    by_flag None = decides (slave_table boot (are_areas_right r) (registers_seen r).state 1) grants
    by_flag (Some code_) = decides (slave_table boot (are_areas_right r) (registers_seen r).state 1) grants

    out_on : are_areas_right r ≡ true → is_enabled r.out_manager.activate ≡ true
    out_on e = (and_parts (r.out_manager.start == 4096 && r.out_manager.length == length r.out_manager.area && r.out_manager.control == 38) (is_enabled r.out_manager.activate) ((and_parts (is_right 4096 38 r.out_manager) (is_right 6144 34 r.in_manager) e).0)).1

    in_on : are_areas_right r ≡ true → is_enabled r.in_manager.activate ≡ true
    in_on e = (and_parts (r.in_manager.start == 6144 && r.in_manager.length == length r.in_manager.area && r.in_manager.control == 34) (is_enabled r.in_manager.activate) ((and_parts (is_right 4096 38 r.out_manager) (is_right 6144 34 r.in_manager) e).1)).1

-- the state that was opened stays over a step
pub start_kept : {S : Type 0} (u : Running S) (boot : Bool) (lens : ℕ → Lens) (p : Plan) → IsPlan boot lens p → (n : ℕ) (r q : Esc.Registers) (k j : Kept) (s t : S) → IsReturned u p n r k s → HasStepped u boot r q k j s t →
    (registers_seen r).state ≡ p.start → (registers_seen q).state ≡ p.start
start_kept u boot lens p plan n r q k j s t b steps is = ap (λ (x : Registers). x.state) steps.registers ∙ go (registers_seen r).control refl
  where
    carried : (o : Option (ℕ × Bool)) → (registers_seen r).control ≡ o → States.carry (slave_table boot (are_areas_right r)) (registers_seen r) ≡ States.word_carried (slave_table boot (are_areas_right r)) (registers_seen r) None o
    carried o e = ap₂ (λ a c. States.word_carried (slave_table boot (are_areas_right r)) (registers_seen r) a c) b.refused e

    decided_start : (found : Option ℕ) (target : ℕ) → target ≡ p.start → (States.decided (registers_seen r) target found).state ≡ p.start
    decided_start None target e = e
    decided_start (Some code_) target e = is

    by_word : (w : ℕ × Bool) → (registers_seen r).control ≡ Some w → ((w ≡ (1, true)) × ((registers_seen r).state ≡ 1)) ⊎ ((w ≡ (p.start, false)) × (7 < n)) → (States.carry (slave_table boot (are_areas_right r)) (registers_seen r)).state ≡ p.start
    by_word w e (inl init) = absurd (let one : p.start ≡ 1 = sym is ∙ init.1 in let no_ : false ≡ true = sym (not_init p.start boot plan.start) ∙ eq-eqb p.start 1 one in cc)
    by_word w e (inr start) = ap (λ (x : Registers). x.state) (carried (Some w) e) ∙ decided_start (slave_table boot (are_areas_right r) (registers_seen r).state w.0) w.0 (ap (λ (x : ℕ × Bool). x.0) start.0)

    go : (o : Option (ℕ × Bool)) → (registers_seen r).control ≡ o → (States.carry (slave_table boot (are_areas_right r)) (registers_seen r)).state ≡ p.start
    go None e = ap (λ (x : Registers). x.state) (carried None e) ∙ is
    go (Some w) e = by_word w e (b.word w e)

-- what the last access brings, and what access 2 brings
status_read : (r : Esc.Registers) (d : Raw.Datagram) (shown : ℕ) → r.al_status < 32 → (passed r d).body ≡ little_bytes 2 r.al_status ++ (0 ∷ 0 ∷ little_bytes 2 r.al_code) → number_at 2 (passed r d).body 0 ≡ shown → r.al_status ≡ shown
status_read r d shown low body is =
    let wide : r.al_status < 65536 = omega arith in
    sym (word_back r.al_status (0 ∷ 0 ∷ little_bytes 2 r.al_code) wide) ∙ sym (ap (λ o. number_at 2 o 0) body) ∙ is

pub state_shown : {S : Type 0} (u : Running S) (boot : Bool) (lens : ℕ → Lens) (p : Plan) → IsPlan boot lens p → (r : Esc.Registers) (k : Kept) (s : S) (d : Raw.Datagram) → IsReturned u p 9 r k s → IsAccess p 9 d →
    number_at 2 (passed r d).body 0 ≡ p.start → (registers_seen r).state ≡ p.start
state_shown u boot lens p plan r k s d b a shows =
    let same = eq-eqb p.station r.station (sym (b.station (omega arith))) in
    let body : (passed r d).body ≡ little_bytes 2 r.al_status ++ (0 ∷ 0 ∷ little_bytes 2 r.al_code) = ap (λ e. (passed r e).body) (the_access p 9 d a) ∙ rw same refl in
    ap (λ x. bits_of x 0 4) (status_read r d p.start b.status body shows) ∙ go plan.start
  where
    go : (p.start ≡ 2) ⊎ ((p.start ≡ 3) × (boot ≡ true)) → bits_of p.start 0 4 ≡ p.start
    go (inl two) = rw two refl
    go (inr three) = let e = three.0 in rw e refl

-- a slave that is frozen shows no Init, so where access 2 shows it the slave is there
pub frozen_shows : (lens : ℕ → Lens) (p : Plan) (r : Esc.Registers) (d : Raw.Datagram) → IsFrozen lens p r → IsAccess p 2 d → number_at 2 (passed r d).body 0 ≡ 1 → ⊥
frozen_shows lens p r d b a shows =
    let body : (passed r d).body ≡ little_bytes 2 r.al_status ++ (0 ∷ 0 ∷ little_bytes 2 r.al_code) = ap (λ e. (passed r e).body) (the_access p 2 d a) in
    let one : (registers_seen r).state ≡ 1 = ap (λ x. bits_of x 0 4) (status_read r d 1 b.opens.status body shows) in
    let no_ : false ≡ true = sym b.up ∙ eq-eqb (registers_seen r).state 1 one in
    cc

-- FROZEN: by access 1, at a slave that is open or frozen; and left so by access 2
freezes : (lens : ℕ → Lens) (p : Plan) (r : Esc.Registers) (d : Raw.Datagram) → IsOpen lens r → r.station ≡ p.station → is_state (registers_seen r).state ≡ true → ((registers_seen r).state == 1) ≡ false → IsAccess p 1 d →
    IsFrozen lens p (passed r d).registers
freezes lens p r d open_ station state up a =
    subst (λ q. IsFrozen lens p q) (sym (ap (λ e. (passed r e).registers) (the_access p 1 d a)))
    (record { opens = record { out = open_.out; back = open_.back; right = open_.right; status = open_.status; code = open_.code; reads = open_.reads }; station = station; word = refl; state = state; up = up })

pub frame_freezes : (lens : ℕ → Lens) (p : Plan) (r : Esc.Registers) (ds : List Raw.Datagram) → IsOpen lens r → r.station ≡ p.station → is_state (registers_seen r).state ≡ true → ((registers_seen r).state == 1) ≡ false → JustOne p 1 r ds →
    IsFrozen lens p (registers_after r ds)
frame_freezes lens p r [] open_ station state up one = absurd one
frame_freezes lens p r (d ∷ ds) open_ station state up (inl other) =
    let e = unmoved r d other.0 in
    frame_freezes lens p (passed r d).registers ds (subst (λ q. IsOpen lens q) (sym e) open_) (ap (λ q. q.station) e ∙ station) (ap (λ q. is_state (registers_seen q).state) e ∙ state) (ap (λ q. (registers_seen q).state == 1) e ∙ up) other.1
frame_freezes lens p r (d ∷ ds) open_ station state up (inr mine) =
    subst (λ q. IsFrozen lens p q) (sym (none_moves (passed r d).registers ds mine.2)) (freezes lens p r d open_ station state up mine.0)

pub frame_frozen : (lens : ℕ → Lens) (p : Plan) (n : ℕ) (r : Esc.Registers) (ds : List Raw.Datagram) → (n ≡ 1) ⊎ (n ≡ 2) → IsFrozen lens p r → AtMostOne p n r ds → IsFrozen lens p (registers_after r ds)
frame_frozen lens p n r [] at b one = b
frame_frozen lens p n r (d ∷ ds) at b (inl other) =
    frame_frozen lens p n (passed r d).registers ds at (subst (λ q. IsFrozen lens p q) (sym (unmoved r d other.0)) b) other.1
frame_frozen lens p n r (d ∷ ds) at b (inr mine) = subst (λ q. IsFrozen lens p q) (sym (none_moves (passed r d).registers ds mine.2)) (go at)
  where
    go : (n ≡ 1) ⊎ (n ≡ 2) → IsFrozen lens p (passed r d).registers
    go (inl one_) = freezes lens p r d b.opens b.station b.state b.up (subst (λ m. IsAccess p m d) one_ mine.0)
    go (inr two_) = subst (λ q. IsFrozen lens p q) (sym (ap (λ e. (passed r e).registers) (the_access p 2 d (subst (λ m. IsAccess p m d) two_ mine.0)))) b

-- a slave that an opening left which was given up, at access 1 of the next: in Init, or open as that one would have had it
pub raised : {S : Type 0} (u : Running S) (boot : Bool) (lens : ℕ → Lens) (p : Plan) (start : ℕ) → IsPlan boot lens p → IsPlan boot lens (record p { start = start }) → (m : ℕ) (r : Esc.Registers) (k : Kept) (s : S) (d : Raw.Datagram) →
    IsReturned u (record p { start = start }) m r k s → IsAccess p 1 d → IsFrozen lens p (passed r d).registers ⊎ IsReturned u p 2 (passed r d).registers k s
raised {S = S} u boot lens p start plan former m r k s d b a = subst (λ q. IsFrozen lens p q ⊎ IsReturned u p 2 q k s) (sym (ap (λ e. (passed r e).registers) (the_access p 1 d a))) (go b.state)
  where
    state_is : (start ≡ 2) ⊎ ((start ≡ 3) × (boot ≡ true)) → is_state start ≡ true
    state_is (inl two) = ap is_state two
    state_is (inr three) = ap is_state three.0

    go : ((registers_seen r).state ≡ 1) ⊎ ((7 < m) × ((registers_seen r).state ≡ start)) → IsFrozen lens p (record r { al_control = 17; unhandled = true }) ⊎ IsReturned u p 2 (record r { al_control = 17; unhandled = true }) k s
    go (inl init) = inr (record {
      box = b.box;
      cleared = b.cleared;
      waits = b.waits;
      out = b.out;
      back = b.back;
      status = b.status;
      code = b.code;
      refused = b.refused;
      state = inl init;
      word = λ w is. inl (let e : w ≡ (1, true) = cc in e, init);
      off_out = b.off_out;
      off_in = b.off_in;
      called = b.called;
      station = λ late. absurd (omega arith);
      out_empty = λ late. absurd (omega arith);
      in_empty = λ late. absurd (omega arith);
      first = λ late. absurd (omega arith);
      second = λ late. absurd (omega arith);
      acknowledged = λ is. absurd (let one : p.start ≡ 1 = sym is ∙ init in let no_ : false ≡ true = sym (not_init p.start boot plan.start) ∙ eq-eqb p.start 1 one in cc);
    })
    go (inr up) =
        let o = (reopened u boot lens (record p { start = start }) former m up.0 r k s b up.1).opens in
        let late = up.0 in
        inl (record {
          opens = record { out = o.out; back = o.back; right = o.right; status = o.status; code = o.code; reads = o.reads };
          station = b.station (omega arith);
          word = refl;
          state = ap is_state up.1 ∙ state_is former.start;
          up = ap (λ x. x == 1) up.1 ∙ not_init start boot former.start;
        })
