-- A FIRST BRING-UP: frames, steps and its end.
use Rattle.std.proofs.Common.{◌≡◌, ◌⊎◌, inl, inr, ℕ, ◌<◌, ◌≤◌, Bool, true, false, List, [], ◌∷◌, refl, ap, sym, ◌∙◌, subst, arith}
use Rattle.std.specs.Prelude.{None}
use Rattle.std.proofs.lemmas.List.{length-replicate}
use Rattle.frames_seen.specs.of_datagrams.Datagram as Raw
use Rattle.frames_seen.specs.of_esc_registers.declared.registers.Registers as Esc
use Rattle.frames_seen.specs.of_esc_registers.Manager.{is_right}
use Rattle.frames_seen.specs.of_esc_registers.Registers.{first_registers}
use Rattle.frames_seen.specs.of_slave_node.Passing.{passed, registers_after}
use Rattle.frames_seen.specs.of_link_model.Link.{new_link}
use Rattle.frames_seen.specs.of_link_model.Slave.{Server}
use Rattle.frames_seen.specs.of_link_mails.Body.{Body}
use Rattle.frames_seen.specs.of_mailbox_slave.Kept.{Kept}
use Rattle.frames_seen.specs.Shows.{slave_table}
use Rattle.frames_seen.specs.of_frame_view.View.{Lens}
use Rattle.slave_lives.specs.Steps.{node_steps}
use Rattle.slave_lives.specs.Opening.{Plan, IsPlan, aim, IsAccess, IsBringing, IsBring, access_behind, AtMostOne, JustOne}
use Rattle.frames_seen.specs.Own.{NoneMeant}
use Rattle.frames_seen.proofs.Owns.{unmoved}
use Rattle.slave_lives.proofs.Brings.{named, out_set, in_set, word_set, out_is_right, in_is_right, with_body, address_met, out_met, in_met, word_met, status_met}

-- what the master's view of an opening says of the accesses that returned
pub first_brings : {S : Type 0} (p : Plan) (s : S) → IsBringing p 3 (first_registers p.out p.back) (record { last_taken = 0; newest = 0; again = false; last_read = None; fresh = None; withdrawn = None }) s
first_brings p s = record {
  node = refl;
  out = length-replicate {A = ℕ} p.out 0;
  back = length-replicate {A = ℕ} p.back 0;
  status = omega arith;
  code = omega arith;
  refused = refl;
  state = inl refl;
  word = λ w is. absurd (cc);
  called = inl refl;
  station = λ late. absurd (omega arith);
  first = λ late. absurd (omega arith);
  second = λ late. absurd (omega arith);
}

-- no more is known than before
keeps_to : {S : Type 0} (p : Plan) (n m : ℕ) (r : Esc.Registers) (k : Kept) (s : S) → n ≤ m → IsBringing p n r k s → (3 < m → r.station ≡ p.station) → (6 < m → is_right 4096 38 r.out_manager ≡ true) → (7 < m → is_right 6144 34 r.in_manager ≡ true) → IsBringing p m r k s
keeps_to p n m r k s more b station first second = record { node = b.node; out = b.out; back = b.back; status = b.status; code = b.code; refused = b.refused; state = stated b.state; word = λ w is. worded (b.word w is); called = b.called; station = station; first = first; second = second }
  where
    stated : {x y : Type 0} → x ⊎ ((7 < n) × y) → x ⊎ ((7 < m) × y)
    stated (inl x) = inl x
    stated (inr y) = let late = y.0 in inr (omega arith, y.1)

    worded : {x : Type 0} → x × (7 < n) → x × (7 < m)
    worded y = let late = y.1 in (y.0, omega arith)

-- an access of the plan is the datagram with its parts
pub the_access : (p : Plan) (n : ℕ) (d : Raw.Datagram) → IsAccess p n d → d ≡ with_body d (aim p n).command (aim p n).adp (aim p n).ado (aim p n).octets
the_access p n d a = λ i. record d { head = record d.head { command = a.command i; adp = a.adp i; ado = a.ado i }; body = a.octets i }

-- the access in hand is met
record Both {S : Type 0} (p : Plan) (n : ℕ) (r : Esc.Registers) (k : Kept) (s : S) : Type 0 where
  stays : IsBringing p n r k s
  goes : IsBringing p (access_behind n) r k s

access_met : {S : Type 0} (boot : Bool) (lens : ℕ → Lens) (p : Plan) → IsPlan boot lens p → (n : ℕ) (r : Esc.Registers) (k : Kept) (s : S) (d : Raw.Datagram) → IsBring n → IsBringing p n r k s → IsAccess p n d →
    Both p n (passed r d).registers k s
access_met boot lens p plan n r k s d IsBring.address b a =
    let is = ap (λ e. (passed r e).registers) (the_access p 3 d a) ∙ address_met boot lens p plan 3 r k s b d in
    let now = named boot lens p plan 3 r k s b in
    subst (λ q. Both p 3 q k s) (sym is) (record { stays = now; goes = keeps_to p 3 6 (record r { station = p.station }) k s (omega arith) now (λ late. refl) (λ late. absurd (omega arith)) (λ late. absurd (omega arith)) })
access_met boot lens p plan n r k s d IsBring.out_on b a =
    let station = b.station (omega arith) in
    let is = ap (λ e. (passed r e).registers) (the_access p 6 d a) ∙ out_met boot lens p plan 6 r k s b d station in
    let now = out_set boot lens p plan 6 r k s b in
    subst (λ q. Both p 6 q k s) (sym is) (record { stays = now; goes = keeps_to p 6 7 _ k s (omega arith) now (λ late. station) (λ late. out_is_right boot lens p plan 6 r k s b) (λ late. absurd (omega arith)) })
access_met boot lens p plan n r k s d IsBring.in_on b a =
    let station = b.station (omega arith) in
    let is = ap (λ e. (passed r e).registers) (the_access p 7 d a) ∙ in_met boot lens p plan 7 r k s b d station in
    let now = in_set boot lens p plan 7 r k s b in
    subst (λ q. Both p 7 q k s) (sym is) (record { stays = now; goes = keeps_to p 7 8 _ k s (omega arith) now (λ late. station) (λ late. b.first (omega arith)) (λ late. in_is_right boot lens p plan 7 r k s b) })
access_met boot lens p plan n r k s d IsBring.word b a =
    let station = b.station (omega arith) in
    let is = ap (λ e. (passed r e).registers) (the_access p 8 d a) ∙ word_met boot lens p plan 8 r k s b d station in
    let now = word_set boot lens p plan 8 r k s b (omega arith) in
    subst (λ q. Both p 8 q k s) (sym is) (record { stays = now; goes = keeps_to p 8 9 _ k s (omega arith) now (λ late. station) (λ late. b.first (omega arith)) (λ late. b.second (omega arith)) })
access_met boot lens p plan n r k s d IsBring.status b a =
    let station = b.station (omega arith) in
    let is = ap (λ e. (passed r e).registers) (the_access p 9 d a) ∙ status_met boot lens p plan 9 r k s b d station in
    subst (λ q. Both p 9 q k s) (sym is) (record { stays = b; goes = b })

pub none_moves : (r : Esc.Registers) (ds : List Raw.Datagram) → NoneMeant r ds → registers_after r ds ≡ r
none_moves r [] none = refl
none_moves r (d ∷ ds) none = none_moves (passed r d).registers ds none.1 ∙ unmoved r d none.0

-- A FRAME while an access is in hand, whether the slave meets it or not
pub frame_brings : {S : Type 0} (boot : Bool) (lens : ℕ → Lens) (p : Plan) → IsPlan boot lens p → (n : ℕ) (r : Esc.Registers) (k : Kept) (s : S) (ds : List Raw.Datagram) → IsBring n → IsBringing p n r k s → AtMostOne p n r ds →
    IsBringing p n (registers_after r ds) k s
frame_brings boot lens p plan n r k s [] at b one = b
frame_brings boot lens p plan n r k s (d ∷ ds) at b (inl other) =
    frame_brings boot lens p plan n (passed r d).registers k s ds at (subst (λ q. IsBringing p n q k s) (sym (unmoved r d other.0)) b) other.1
frame_brings boot lens p plan n r k s (d ∷ ds) at b (inr mine) =
    subst (λ q. IsBringing p n q k s) (sym (none_moves (passed r d).registers ds mine.2)) (access_met boot lens p plan n r k s d at b mine.0).stays

-- and one in which it does: then the next may be in hand
pub frame_goes : {S : Type 0} (boot : Bool) (lens : ℕ → Lens) (p : Plan) → IsPlan boot lens p → (n : ℕ) (r : Esc.Registers) (k : Kept) (s : S) (ds : List Raw.Datagram) → IsBring n → IsBringing p n r k s → JustOne p n r ds →
    IsBringing p (access_behind n) (registers_after r ds) k s
frame_goes boot lens p plan n r k s [] at b one = absurd one
frame_goes boot lens p plan n r k s (d ∷ ds) at b (inl other) =
    frame_goes boot lens p plan n (passed r d).registers k s ds at (subst (λ q. IsBringing p n q k s) (sym (unmoved r d other.0)) b) other.1
frame_goes boot lens p plan n r k s (d ∷ ds) at b (inr mine) =
    subst (λ q. IsBringing p (access_behind n) q k s) (sym (none_moves (passed r d).registers ds mine.2)) (access_met boot lens p plan n r k s d at b mine.0).goes

-- A STEP of its processor: nothing waits, so only the word is carried out
pub idle_step : {S : Type 0} (a b : Bool) (v : Server Body S) (clear : S → S) (s : S) → v.next s ≡ None → clear s ≡ s → node_steps a b v clear (new_link s).node ≡ (new_link s).node
idle_step a true v clear s none same = go a
  where
    go : (a : Bool) → node_steps a true v clear (new_link s).node ≡ (new_link s).node
    go true = ap (λ x. (new_link x).node) same
    go false = ap (λ x. (new_link x).node) same
idle_step true false v clear s none same = rw none refl
idle_step false false v clear s none same = rw none refl

pub allowed : (boot : Bool) (from start : ℕ) → (start ≡ 2) ⊎ ((start ≡ 3) × (boot ≡ true)) → (from ≡ 1) ⊎ (from ≡ start) → slave_table boot true from start ≡ None
allowed boot from start (inl two) (inl init) = rw (two, init) refl
allowed boot from start (inl two) (inr same) = ap (λ f. slave_table boot true f start) (same ∙ two) ∙ ap (slave_table boot true 2) two
allowed boot from start (inr three) (inl init) = let e = three.0 in let f = three.1 in rw (e, f, init) refl
allowed boot from start (inr three) (inr same) = let f = three.1 in ap (λ f. slave_table boot true f start) (same ∙ three.0) ∙ ap (slave_table boot true 3) three.0 ∙ rw f refl
