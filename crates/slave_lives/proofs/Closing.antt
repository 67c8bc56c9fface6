-- OPENINGS, by how the master stands to the slave: frames, what came back, and steps.
use Rattle.std.proofs.Common.{◌≡◌, ◌≢◌, ◌⊎◌, inl, inr, ℕ, suc, ◌<◌, ◌==◌, ◌&&◌, Bool, true, false, List, [], ◌∷◌, length, refl, ap, ap₂, sym, ◌∙◌, subst, arith}
use Rattle.std.specs.Prelude.{Option, Some, None, if◌then◌else◌, nat_lt}
use Rattle.std.proofs.lemmas.Bool.{eqb-true, eqb-false, ltb-true, and_parts}
use Rattle.frames_seen.specs.of_datagrams.Datagram as Raw
use Rattle.frames_seen.specs.of_ec_fields.Fields.{number_at, bits_of}
use Rattle.frames_seen.specs.of_esc_registers.declared.registers.Registers as Esc
use Rattle.frames_seen.specs.of_datagrams.declared.head.Head.{Head}
use Rattle.frames_seen.specs.of_slave_node.Passing.{passed, datagram_after, registers_after}
use Rattle.frames_seen.proofs.of_slave_node.Parts.{head_kept}
use Rattle.frames_seen.proofs.Rows.{access_len}
use Rattle.frames_seen.specs.of_frame_view.View.{Lens, datagram_seen, station_of, access_of, read_access, found_of}
use Rattle.frames_seen.proofs.Owns.{unmoved}
use Rattle.frames_seen.specs.of_mailbox_slave.Kept.{Kept}
use Rattle.frames_seen.specs.of_mailbox_slave.Registers.{in_len}
use Rattle.frames_seen.specs.of_segment_model.Slaves.{Access, Found}
use Rattle.frames_seen.specs.of_slave_node.Node.{Node}
use Rattle.frames_seen.specs.of_life_model.Lives.{Opening, Stand, Life, last_step, shows_clear, is_shown, steps_on, clears, opens, opening_back}
use Rattle.slave_lives.specs.Nodes.{IsRunning, IsRoomy, stepped, StepsOn}
use Rattle.slave_lives.specs.Opening.{Plan, IsPlan, aim, IsAccess, IsBring, IsBringing, IsOpened, AtMostOne, JustOne, access_behind}
use Rattle.slave_lives.specs.Returning.{Clears, IsReturned, IsFrozen, IsTurn, turn_behind}
use Rattle.slave_lives.specs.Rings.{met}
use Rattle.slave_lives.specs.Stands.{bring_turn, turn_of, IsBringStep, IsClosed, IsUp, ClosedAs, CameBack}
use Rattle.slave_lives.specs.Steps.{Running, HasStepped}
use Rattle.slave_lives.proofs.Brought as Brought
use Rattle.slave_lives.proofs.NodeSteps as Stepped
use Rattle.slave_lives.proofs.Openings as Openings
use Rattle.slave_lives.proofs.Returns as Returns
use Rattle.slave_lives.proofs.RingFrames.{after_keeps}
use Rattle.slave_lives.proofs.Turning as Turning

is_bring : (step : ℕ) → IsBringStep step → IsBring (bring_turn step)
is_bring step IsBringStep.address = IsBring.address
is_bring step IsBringStep.out_on = IsBring.out_on
is_bring step IsBringStep.in_on = IsBring.in_on
is_bring step IsBringStep.word = IsBring.word
is_bring step IsBringStep.status = IsBring.status

pub is_turn : (step : ℕ) → IsBringStep step → IsTurn (bring_turn step)
is_turn step IsBringStep.address = IsTurn.address
is_turn step IsBringStep.out_on = IsTurn.out_on
is_turn step IsBringStep.in_on = IsTurn.in_on
is_turn step IsBringStep.word = IsTurn.word
is_turn step IsBringStep.status = IsTurn.status

pub bring_is : (o : Opening) → o.again ≡ false → turn_of o ≡ bring_turn o.step
bring_is o e = ap (λ (b : Bool). if b then o.step else bring_turn o.step) e

pub again_is : (o : Opening) → o.again ≡ true → turn_of o ≡ o.step
again_is o e = ap (λ (b : Bool). if b then o.step else bring_turn o.step) e

-- a frame that meets the access is one that may
pub just_at_most : (p : Plan) (n : ℕ) (r : Esc.Registers) (ds : List Raw.Datagram) → JustOne p n r ds → AtMostOne p n r ds
just_at_most p n r [] one = absurd one
just_at_most p n r (d ∷ ds) (inl other) = inl (other.0, just_at_most p n (passed r d).registers ds other.1)
just_at_most p n r (d ∷ ds) (inr mine) = inr mine

-- what an opening left that was given up, at access 1 of the next
sooner : {S : Type 0} (u : Running S) (p : Plan) (r : Esc.Registers) (k : Kept) (s : S) → IsReturned u p 2 r k s → IsReturned u p 1 r k s
sooner u p r k s b = record {
  box = b.box;
  cleared = b.cleared;
  waits = b.waits;
  out = b.out;
  back = b.back;
  status = b.status;
  code = b.code;
  refused = b.refused;
  state = stated b.state;
  word = λ w is. worded (b.word w is);
  off_out = b.off_out;
  off_in = b.off_in;
  called = b.called;
  station = λ late. absurd (omega arith);
  out_empty = λ late. absurd (omega arith);
  in_empty = λ late. absurd (omega arith);
  first = λ late. absurd (omega arith);
  second = λ late. absurd (omega arith);
  acknowledged = b.acknowledged;
}
  where
    stated : {x y : Type 0} → x ⊎ ((7 < 2) × y) → x ⊎ ((7 < 1) × y)
    stated (inl x) = inl x
    stated (inr y) = let late = y.0 in absurd (omega arith)

    worded : {x y : Type 0} → x ⊎ (y × (7 < 2)) → x ⊎ (y × (7 < 1))
    worded (inl x) = inl x
    worded (inr y) = let late = y.1 in absurd (omega arith)

-- a status that shows a state without the error flag
shown_by : (status s : ℕ) (code : ℕ) (zero_ low flag : Bool) → nat_lt status 32 ≡ low → (bits_of status 4 1 == 1) ≡ flag →
    is_shown s (if zero_ then None else if low then Some (Found.State (bits_of status 0 4) (if flag then Some code else None)) else None) ≡ true → status ≡ s
shown_by status s code true low flag l f is = absurd (cc)
shown_by status s code false false flag l f is = absurd (cc)
shown_by status s code false true true l f is = absurd (cc)
shown_by status s code false true false l f is =
    let few = ltb-true status 32 l in
    let low : bits_of status 0 4 ≡ s = eqb-true (bits_of status 0 4) s is in
    let up : bits_of status 4 1 ≢ 1 = λ e. eqb-false (bits_of status 4 1) 1 f e in
    omega (arith, few, low, up)

shown_status : (s counter : ℕ) (body : List ℕ) → is_shown s (found_of Access.ReadState counter body) ≡ true → number_at 2 body 0 ≡ s
shown_status s counter body is = shown_by (number_at 2 body 0) s (number_at 2 body 4) (counter == 0) (nat_lt (number_at 2 body 0) 32) (bits_of (number_at 2 body 0) 4 1 == 1) refl refl is

-- access 2 and the last one read AL status and code
data IsRead : ℕ → Type 0 where
  watch : IsRead 2
  status : IsRead 9

read_found : (lens : ℕ → Lens) (p : Plan) (turn : ℕ) (r : Esc.Registers) (d : Raw.Datagram) → IsRead turn → IsAccess p turn d → (datagram_seen lens (datagram_after r d)).found ≡ found_of Access.ReadState (passed r d).head.counter (passed r d).body
read_found lens p turn r d at a = go at a
  where
    body : List ℕ
    body = (passed r d).body

    counter : ℕ
    counter = (passed r d).head.counter

    same_command : (passed r d).head.command ≡ d.head.command
    same_command = ap (λ (h : Head). h.command) (head_kept r d)

    same_ado : (passed r d).head.ado ≡ d.head.ado
    same_ado = ap (λ (h : Head). h.ado) (head_kept r d)

    six : (octets : List ℕ) → d.body ≡ octets → length octets ≡ 6 → length (passed r d).body ≡ 6
    six octets e l = access_len r d.head d.body ∙ ap length e ∙ l

    whole : (n : ℕ) → n ≡ 6 → found_of (read_access 304 n) (passed r d).head.counter (passed r d).body ≡ found_of Access.ReadState (passed r d).head.counter (passed r d).body
    whole n e = ap (λ m. found_of (read_access 304 m) (passed r d).head.counter (passed r d).body) e

    go : {t : ℕ} → IsRead t → IsAccess p t d → (datagram_seen lens (datagram_after r d)).found ≡ found_of Access.ReadState (passed r d).head.counter (passed r d).body
    go IsRead.watch a =
        (λ i. found_of (access_of (lens (station_of ((same_command ∙ a.command) i) (passed r d).head.adp)) ((same_command ∙ a.command) i) ((same_ado ∙ a.ado) i) (passed r d).body) (passed r d).head.counter (passed r d).body)
        ∙ whole (length (passed r d).body) (six (aim p 2).octets a.octets refl)
    go IsRead.status a =
        (λ i. found_of (access_of (lens (station_of ((same_command ∙ a.command) i) (passed r d).head.adp)) ((same_command ∙ a.command) i) ((same_ado ∙ a.ado) i) (passed r d).body) (passed r d).head.counter (passed r d).body)
        ∙ whole (length (passed r d).body) (six (aim p 9).octets a.octets refl)

came_shows : (lens : ℕ → Lens) (p : Plan) (turn s : ℕ) (r : Esc.Registers) (d : Raw.Datagram) (done : Bool) (found : Option Found) → IsRead turn → CameBack lens p turn r d done found → (done && is_shown s found) ≡ true →
    number_at 2 (passed r d).body 0 ≡ s
came_shows lens p turn s r d done found at c is =
    let both = and_parts done (is_shown s found) is in
    shown_status s (passed r d).head.counter (passed r d).body (ap (is_shown s) (sym (c.found_is ∙ read_found lens p turn r d at c.access)) ∙ both.1)

module _ {S : Type 0} (u : Running S) (boot : Bool) (lens : ℕ → Lens) (p : Plan) (plan : IsPlan boot lens p) where
  module _ (start turn : ℕ) (former : IsPlan boot lens (record p { start = start })) (k : Kept) (s : S) where
    -- as it was left, or met by access 1
    data LeftTo (r : Esc.Registers) : Type 0 where
      as_was : IsReturned u (record p { start = start }) turn r k s → LeftTo r
      to_frozen : IsFrozen lens p r → LeftTo r
      to_init : IsReturned u p 2 r k s → LeftTo r

    met_left : (r : Esc.Registers) (d : Raw.Datagram) → IsReturned u (record p { start = start }) turn r k s → IsAccess p 1 d → IsFrozen lens p (passed r d).registers ⊎ IsReturned u p 2 (passed r d).registers k s
    met_left r d b a = Turning.raised u boot lens p start plan former turn r k s d b a

    one_left : (r : Esc.Registers) (ds : List Raw.Datagram) → IsReturned u (record p { start = start }) turn r k s → JustOne p 1 r ds → IsFrozen lens p (registers_after r ds) ⊎ IsReturned u p 2 (registers_after r ds) k s
    one_left r [] b one = absurd one
    one_left r (d ∷ ds) b (inl other) = one_left (passed r d).registers ds (subst (λ q. IsReturned u (record p { start = start }) turn q k s) (sym (unmoved r d other.0)) b) other.1
    one_left r (d ∷ ds) b (inr mine) =
        subst (λ q. IsFrozen lens p q ⊎ IsReturned u p 2 q k s) (sym (Openings.none_moves (passed r d).registers ds mine.2)) (met_left r d b mine.0)

    left_by : (r : Esc.Registers) → IsFrozen lens p r ⊎ IsReturned u p 2 r k s → LeftTo r
    left_by r (inl f) = LeftTo.to_frozen f
    left_by r (inr b) = LeftTo.to_init b

    frame_left : (r : Esc.Registers) (ds : List Raw.Datagram) → IsReturned u (record p { start = start }) turn r k s → AtMostOne p 1 r ds → LeftTo (registers_after r ds)
    frame_left r [] b one = LeftTo.as_was b
    frame_left r (d ∷ ds) b (inl other) = frame_left (passed r d).registers ds (subst (λ q. IsReturned u (record p { start = start }) turn q k s) (sym (unmoved r d other.0)) b) other.1
    frame_left r (d ∷ ds) b (inr mine) = subst (λ q. LeftTo q) (sym (Openings.none_moves (passed r d).registers ds mine.2)) (left_by (passed r d).registers (met_left r d b mine.0))

  module _ (o : Opening) where
    close_left : (n : Node S) → o.again ≡ true → o.step ≡ 1 → (start turn : ℕ) (former : IsPlan boot lens (record p { start = start })) (q : Esc.Registers) → LeftTo start turn former n.kept n.server q →
        IsClosed u boot lens p o (record n { registers = q })
    close_left n again step start turn former q (LeftTo.as_was b) = IsClosed.left again step start turn former b
    close_left n again step start turn former q (LeftTo.to_frozen f) = IsClosed.frozen again (inl step) f
    close_left n again step start turn former q (LeftTo.to_init b) =
        IsClosed.returned again (subst IsTurn (sym step) IsTurn.return) (subst (λ m. IsReturned u p m q n.kept n.server) (sym step) (sooner u p q n.kept n.server b))

    -- A FRAME leaves what is known, whether it meets the slave or not
    pub frame_stays : (n : Node S) (is : Bool) (ds : List Raw.Datagram) → AtMostOne p (turn_of o) n.registers ds → IsClosed u boot lens p o n → IsClosed u boot lens p o (met is n ds)
    frame_stays n false ds one c = c
    frame_stays n true ds one (IsClosed.brings first step b clear none) =
        IsClosed.brings first step (Openings.frame_brings boot lens p plan (bring_turn o.step) n.registers n.kept n.server ds (is_bring o.step step) b (subst (λ m. AtMostOne p m n.registers ds) (bring_is o first) one)) clear none
    frame_stays n true ds one (IsClosed.frozen again step f) =
        IsClosed.frozen again step (Turning.frame_frozen lens p o.step n.registers ds step f (subst (λ m. AtMostOne p m n.registers ds) (again_is o again) one))
    frame_stays n true ds one (IsClosed.left again step start turn former b) =
        close_left n again step start turn former (registers_after n.registers ds)
        (frame_left start turn former n.kept n.server n.registers ds b (subst (λ m. AtMostOne p m n.registers ds) (again_is o again ∙ step) one))
    frame_stays n true ds one (IsClosed.returned again step b) =
        IsClosed.returned again step (Returns.frame_returns u boot lens p plan o.step n.registers n.kept n.server ds step b (subst (λ m. AtMostOne p m n.registers ds) (again_is o again) one))

    -- A STEP leaves it too, or takes a frozen slave to Init
    pub step_stays : Clears u → (n : Node S) → n.boot ≡ boot → IsRunning u n → IsRoomy u (in_len n.registers) n.server → IsClosed u boot lens p o n → IsClosed u boot lens p o (stepped u n)
    step_stays clears_ n is runs roomy c = go c
      where
        on : StepsOn u n (stepped u n)
        on = Stepped.steps_on u clears_ n runs roomy

        m : Node S
        m = stepped u n

        steps : HasStepped u boot n.registers (stepped u n).registers n.kept (stepped u n).kept n.server (stepped u n).server
        steps = subst (λ b. HasStepped u b n.registers (stepped u n).registers n.kept (stepped u n).kept n.server (stepped u n).server) is on.steps

        back : (turn : ℕ) (start : ℕ) → IsPlan boot lens (record p { start = start }) → IsReturned u (record p { start = start }) turn n.registers n.kept n.server → IsReturned u (record p { start = start }) turn (stepped u n).registers (stepped u n).kept (stepped u n).server
        back turn start good b = Turning.step_returns u boot lens (record p { start = start }) good turn n.registers (stepped u n).registers n.kept (stepped u n).kept n.server (stepped u n).server b on.keeps steps on.status on.code

        init : (turn : ℕ) → turn < 3 → IsFrozen lens p n.registers → IsReturned u p turn (stepped u n).registers (stepped u n).kept (stepped u n).server
        init turn soon f = (Turning.step_freezes u boot lens p plan clears_ turn soon n.registers (stepped u n).registers n.kept (stepped u n).kept n.server (stepped u n).server f on.keeps steps on.status on.code).0

        go : IsClosed u boot lens p o n → IsClosed u boot lens p o (stepped u n)
        go (IsClosed.brings first step b clear none) =
            let x = Brought.step_brings u boot lens p plan (bring_turn o.step) n.registers (stepped u n).registers n.kept (stepped u n).kept n.server (stepped u n).server b none clear on.keeps steps on.status on.code in
            IsClosed.brings first step x.0 (ap u.clear x.1 ∙ clear ∙ sym x.1) (ap u.next x.1 ∙ none)
        go (IsClosed.frozen again (inl step) f) =
            IsClosed.returned again (subst IsTurn (sym step) IsTurn.return) (subst (λ t. IsReturned u p t (stepped u n).registers (stepped u n).kept (stepped u n).server) (sym step) (init 1 (omega arith) f))
        go (IsClosed.frozen again (inr step) f) =
            IsClosed.returned again (subst IsTurn (sym step) IsTurn.watch) (subst (λ t. IsReturned u p t (stepped u n).registers (stepped u n).kept (stepped u n).server) (sym step) (init 2 (omega arith) f))
        go (IsClosed.left again step start turn former b) = IsClosed.left again step start turn former (back turn start former b)
        go (IsClosed.returned again step b) = IsClosed.returned again step (back o.step p.start plan b)

    -- WHERE IT MEETS THE ACCESS AND THE FRAME COMES BACK the next is in hand
    bring_next : (step : ℕ) → IsBringStep step → (step == 5) ≡ false → (access_behind (bring_turn step) ≡ bring_turn (suc step)) × IsBringStep (suc step)
    bring_next step IsBringStep.address e = (refl, IsBringStep.out_on)
    bring_next step IsBringStep.out_on e = (refl, IsBringStep.in_on)
    bring_next step IsBringStep.in_on e = (refl, IsBringStep.word)
    bring_next step IsBringStep.word e = (refl, IsBringStep.status)
    bring_next step IsBringStep.status e = absurd (cc)

    turn_next : (turn : ℕ) → IsTurn turn → (turn == 9) ≡ false → (turn_behind turn ≡ suc turn) × IsTurn (suc turn)
    turn_next turn IsTurn.return e = (refl, IsTurn.watch)
    turn_next turn IsTurn.watch e = (refl, IsTurn.address)
    turn_next turn IsTurn.address e = (refl, IsTurn.out_off)
    turn_next turn IsTurn.out_off e = (refl, IsTurn.in_off)
    turn_next turn IsTurn.in_off e = (refl, IsTurn.out_on)
    turn_next turn IsTurn.out_on e = (refl, IsTurn.in_on)
    turn_next turn IsTurn.in_on e = (refl, IsTurn.word)
    turn_next turn IsTurn.word e = (refl, IsTurn.status)
    turn_next turn IsTurn.status e = absurd (cc)

    last_bring : o.again ≡ false → last_step o ≡ 5
    last_bring e = ap (λ (b : Bool). if b then 9 else 5) e

    last_again : o.again ≡ true → last_step o ≡ 9
    last_again e = ap (λ (b : Bool). if b then 9 else 5) e

    clear_at : o.again ≡ true → o.step ≡ 2 → shows_clear o ≡ true
    clear_at again two = ap₂ (λ (a : Bool) (s : ℕ). a && s == 2) again two

    abbrev onward : Opening
    onward = record o { step = suc o.step }

    turned_left : (n : Node S) (q : Esc.Registers) → o.again ≡ true → o.step ≡ 1 → IsFrozen lens p q ⊎ IsReturned u p 2 q n.kept n.server → IsClosed u boot lens p onward (record n { registers = q })
    turned_left n q again step (inl f) = IsClosed.frozen again (inr (ap suc step)) f
    turned_left n q again step (inr b) = IsClosed.returned again (subst IsTurn (sym (ap suc step)) IsTurn.watch) (subst (λ m. IsReturned u p m q n.kept n.server) (sym (ap suc step)) b)

    pub frame_goes : (n : Node S) (ds : List Raw.Datagram) → JustOne p (turn_of o) n.registers ds → shows_clear o ≡ false → (o.step == last_step o) ≡ false → IsClosed u boot lens p o n → IsClosed u boot lens p onward (met true n ds)
    frame_goes n ds one clear_ last (IsClosed.brings first step b clear none) =
        let next = bring_next o.step step (ap (λ (m : ℕ). o.step == m) (sym (last_bring first)) ∙ last) in
        let now = Openings.frame_goes boot lens p plan (bring_turn o.step) n.registers n.kept n.server ds (is_bring o.step step) b (subst (λ m. JustOne p m n.registers ds) (bring_is o first) one) in
        IsClosed.brings first next.1 (subst (λ m. IsBringing p m (registers_after n.registers ds) n.kept n.server) next.0 now) clear none
    frame_goes n ds one clear_ last (IsClosed.frozen again (inl step) f) =
        IsClosed.frozen again (inr (ap suc step)) (Turning.frame_freezes lens p n.registers ds f.opens f.station f.state f.up (subst (λ m. JustOne p m n.registers ds) (again_is o again ∙ step) one))
    frame_goes n ds one clear_ last (IsClosed.frozen again (inr step) f) = absurd (let no : false ≡ true = sym clear_ ∙ clear_at again step in cc)
    frame_goes n ds one clear_ last (IsClosed.left again step start turn former b) =
        turned_left n (registers_after n.registers ds) again step (one_left start turn former n.kept n.server n.registers ds b (subst (λ m. JustOne p m n.registers ds) (again_is o again ∙ step) one))
    frame_goes n ds one clear_ last (IsClosed.returned again step b) =
        let next = turn_next o.step step (ap (λ (m : ℕ). o.step == m) (sym (last_again again)) ∙ last) in
        let now = Returns.frame_turns u boot lens p plan o.step n.registers n.kept n.server ds step b (subst (λ m. JustOne p m n.registers ds) (again_is o again) one) in
        IsClosed.returned again next.1 (subst (λ m. IsReturned u p m (registers_after n.registers ds) n.kept n.server) next.0 now)

    -- where access 2 shows Init, the slave is there
    frame_clears : (n : Node S) (ds : List Raw.Datagram) (d : Raw.Datagram) → shows_clear o ≡ true → JustOne p (turn_of o) n.registers ds → IsAccess p (turn_of o) d → number_at 2 (passed n.registers d).body 0 ≡ 1 → IsClosed u boot lens p o n →
        IsClosed u boot lens p (record o { step = 3 }) (met true n ds)
    frame_clears n ds d clear_ one access shows c = go c
      where
        parts : (o.again ≡ true) × ((o.step == 2) ≡ true)
        parts = and_parts o.again (o.step == 2) clear_

        two : o.step ≡ 2
        two = eqb-true o.step 2 parts.1

        turn : turn_of o ≡ 2
        turn = again_is o parts.0 ∙ two

        go : IsClosed u boot lens p o n → IsClosed u boot lens p (record o { step = 3 }) (met true n ds)
        go (IsClosed.brings first step b clear none) = absurd (let no : true ≡ false = sym parts.0 ∙ first in cc)
        go (IsClosed.frozen again step f) = absurd (Turning.frozen_shows lens p n.registers d f (subst (λ m. IsAccess p m d) turn access) shows)
        go (IsClosed.left again step start turn_ former b) = absurd (let no : 1 ≡ 2 = sym step ∙ two in cc)
        go (IsClosed.returned again step b) =
            IsClosed.returned again IsTurn.address (Returns.frame_turns u boot lens p plan 2 n.registers n.kept n.server ds IsTurn.watch (subst (λ m. IsReturned u p m n.registers n.kept n.server) two b) (subst (λ m. JustOne p m n.registers ds) turn one))

    -- where the last access shows the state, it stands
    seen_up : (n : Node S) (ds : List Raw.Datagram) (d : Raw.Datagram) → JustOne p 9 n.registers ds → IsAccess p 9 d → number_at 2 (passed n.registers d).body 0 ≡ p.start → IsReturned u p 9 n.registers n.kept n.server → IsUp u p (met true n ds)
    seen_up n ds d one access shows b =
        let state = Turning.state_shown u boot lens p plan n.registers n.kept n.server d b access shows in
        record {
          returned = Returns.frame_returns u boot lens p plan 9 n.registers n.kept n.server ds IsTurn.status b (just_at_most p 9 n.registers ds one);
          state = ap (λ (x : ℕ). bits_of x 0 4) (after_keeps n.registers ds).status ∙ state;
        }

    frame_up : (n : Node S) (ds : List Raw.Datagram) (d : Raw.Datagram) → o.step ≡ last_step o → JustOne p (turn_of o) n.registers ds → IsAccess p (turn_of o) d → number_at 2 (passed n.registers d).body 0 ≡ p.start → IsClosed u boot lens p o n →
        IsUp u p (met true n ds)
    frame_up n ds d last one access shows (IsClosed.brings first step b clear none) =
        let five : o.step ≡ 5 = last ∙ last_bring first in
        let nine : turn_of o ≡ 9 = bring_is o first ∙ ap bring_turn five in
        seen_up n ds d (subst (λ m. JustOne p m n.registers ds) nine one) (subst (λ m. IsAccess p m d) nine access) shows
        (Brought.returned u boot lens p plan 9 n.registers n.kept n.server (subst (λ m. IsBringing p m n.registers n.kept n.server) (ap bring_turn five) b) clear none)
    frame_up n ds d last one access shows (IsClosed.frozen again (inl step) f) = absurd (let no : 1 ≡ 9 = sym step ∙ last ∙ last_again again in cc)
    frame_up n ds d last one access shows (IsClosed.frozen again (inr step) f) = absurd (let no : 2 ≡ 9 = sym step ∙ last ∙ last_again again in cc)
    frame_up n ds d last one access shows (IsClosed.left again step start turn former b) = absurd (let no : 1 ≡ 9 = sym step ∙ last ∙ last_again again in cc)
    frame_up n ds d last one access shows (IsClosed.returned again step b) =
        let nine : o.step ≡ 9 = last ∙ last_again again in
        let turn : turn_of o ≡ 9 = again_is o again ∙ nine in
        seen_up n ds d (subst (λ m. JustOne p m n.registers ds) turn one) (subst (λ m. IsAccess p m d) turn access) shows (subst (λ m. IsReturned u p m n.registers n.kept n.server) nine b)

    -- A LIFE'S OPENING BEHIND ITS ACCESS, as the model has it
    pub came_back : {M Q R : Type 0} (frame : ℕ) (l : Life M Q R) (done : Bool) (found : Option Found) (n : Node S) (ds : List Raw.Datagram) (d : Raw.Datagram) → l.stand ≡ Stand.Opens o → o.state ≡ p.start → JustOne p (turn_of o) n.registers ds →
        CameBack lens p (turn_of o) n.registers d done found → IsClosed u boot lens p o n → ClosedAs u boot lens p (opening_back frame l o done found).stand (met true n ds)
    came_back frame l done found n ds d stand state one came c = go (shows_clear o) refl (o.step == last_step o) refl (done && is_shown 1 found) refl (done && is_shown o.state found) refl
      where
        read_watch : shows_clear o ≡ true → IsRead (turn_of o)
        read_watch a = let both = and_parts o.again (o.step == 2) a in subst IsRead (sym (again_is o both.0 ∙ eqb-true o.step 2 both.1)) IsRead.watch

        read_last : o.step ≡ last_step o → IsRead (turn_of o)
        read_last e = by o.again refl
          where
            by : (b : Bool) → o.again ≡ b → IsRead (turn_of o)
            by true again = subst IsRead (sym (again_is o again ∙ e ∙ last_again again)) IsRead.status
            by false again = subst IsRead (sym (bring_is o again ∙ ap bring_turn (e ∙ last_bring again))) IsRead.status

        stays : ClosedAs u boot lens p l.stand (met true n ds)
        stays = subst (λ st. ClosedAs u boot lens p st (met true n ds)) (sym stand) (frame_stays n true ds (just_at_most p (turn_of o) n.registers ds one) c)

        go : (a : Bool) → shows_clear o ≡ a → (b : Bool) → (o.step == last_step o) ≡ b → (x : Bool) → (done && is_shown 1 found) ≡ x → (y : Bool) → (done && is_shown o.state found) ≡ y →
            ClosedAs u boot lens p (if a then (if x then clears frame l o else l) else if b then (if y then opens frame l else l) else steps_on l o).stand (met true n ds)
        go true a b e true x y f = frame_clears n ds d a one came.access (came_shows lens p (turn_of o) 1 n.registers d done found (read_watch a) came x) c
        go true a b e false x y f = stays
        go false a true e x f true y = frame_up n ds d (eqb-true o.step (last_step o) e) one came.access (came_shows lens p (turn_of o) o.state n.registers d done found (read_last (eqb-true o.step (last_step o) e)) came y ∙ state) c
        go false a true e x f false y = stays
        go false a false e x f y g = frame_goes n ds one a e c

  -- UP, it stays so by a step, and is open
  pub up_steps : Clears u → (n : Node S) → n.boot ≡ boot → IsRunning u n → IsRoomy u (in_len n.registers) n.server → IsUp u p n → IsUp u p (stepped u n)
  up_steps clears_ n is runs roomy up =
      let m = stepped u n in
      let on = Stepped.steps_on u clears_ n runs roomy in
      let steps = subst (λ b. HasStepped u b n.registers m.registers n.kept m.kept n.server m.server) is on.steps in
      record {
        returned = Turning.step_returns u boot lens p plan 9 n.registers m.registers n.kept m.kept n.server m.server up.returned on.keeps steps on.status on.code;
        state = Turning.start_kept u boot lens p plan 9 n.registers m.registers n.kept m.kept n.server m.server up.returned steps up.state;
      }

  pub up_opens : (n : Node S) → IsUp u p n → IsOpened lens p n.registers n.kept n.server × (u.next n.server ≡ None)
  up_opens n up = (Turning.reopened u boot lens p plan 9 (omega arith) n.registers n.kept n.server up.returned up.state, up.returned.waits)
