-- BRING-UP, access by access.
use Rattle.std.proofs.Common.{◌≡◌, ◌⊎◌, inl, inr, ℕ, ◌<◌, ◌==◌, Bool, true, false, List, [], ◌∷◌, length, refl, ap, sym, ◌∙◌, arith}
use Rattle.std.specs.Prelude.{if◌then◌else◌, Some, None}
use Rattle.std.proofs.lemmas.Bool.{eq-eqb}
use Rattle.byteorder.specs.Endian.{little_bytes}
use Rattle.frames_seen.specs.of_ec_fields.Fields.{number_at}
use Rattle.frames_seen.specs.of_datagrams.declared.command.Command.{Command}
use Rattle.frames_seen.specs.of_datagrams.declared.command.Command.TheVariants.{Apwr, Fprd, Fpwr}
use Rattle.frames_seen.specs.of_datagrams.Datagram as Raw
use Rattle.frames_seen.specs.of_esc_registers.declared.registers.Registers.{Registers}
use Rattle.frames_seen.specs.of_esc_registers.Manager.{is_right}
use Rattle.frames_seen.specs.of_slave_node.Passing.{passed}
use Rattle.frames_seen.specs.of_link_model.Slave.{Node}
use Rattle.frames_seen.specs.of_link_mails.Body.{Body}
use Rattle.frames_seen.specs.of_mailbox_slave.Kept.{Kept}
use Rattle.frames_seen.specs.of_frame_view.View.{Lens}
use Rattle.frames_seen.specs.Slaves.{registers_seen}
use Rattle.slave_lives.specs.Opening.{Plan, IsPlan, manager_octets, IsBringing}
use Rattle.frames_seen.proofs.Boxes.{aimed}

-- an emptiness that is seen
pub none_full : {X : Type 0} (b : Bool) (x : X) → (if b then Some x else None) ≡ None → b ≡ false
none_full true x e = absurd (cc)
none_full false x e = refl

module _ {S : Type 0} (boot : Bool) (lens : ℕ → Lens) (p : Plan) (plan : IsPlan boot lens p) (n : ℕ) (r : Registers) (k : Kept) (s : S) (b : IsBringing p n r k s) where
  pub out_empty : r.out_manager.full ≡ false
  out_empty = none_full r.out_manager.full _ (ap (λ (x : Node Body S). x.out.box) b.node)

  pub in_empty : r.in_manager.full ≡ false
  in_empty = none_full r.in_manager.full _ (ap (λ (x : Node Body S). x.inn.box) b.node)

  -- a slave with another station
  pub named : IsBringing p n (record r { station = p.station }) k s
  named = record { called = inr refl; node = b.node; out = b.out; back = b.back; status = b.status; code = b.code; refused = b.refused; state = b.state; word = b.word; station = λ late. refl; first = b.first; second = b.second }

  -- with manager 0 on
  abbrev pub out_on : Registers
  out_on = record r { out_manager = record r.out_manager { start = 4096; length = p.out; control = 38; activate = 1; full = false } }

  pub out_is_right : is_right 4096 38 out_on.out_manager ≡ true
  out_is_right = let same : (p.out == length r.out_manager.area) ≡ true = eq-eqb p.out (length r.out_manager.area) (sym b.out) in rw same refl

  pub out_set : IsBringing p n out_on k s
  out_set = record {
    node = ap (λ (x : Node Body S). record x { out = record x.out { box = None } }) b.node;
    out = b.out;
    back = b.back;
    status = b.status;
    code = b.code;
    refused = b.refused;
    state = b.state;
    word = b.word;
    called = b.called;
    station = b.station;
    first = λ behind. out_is_right;
    second = b.second;
  }

  -- with manager 1 on
  abbrev pub in_on : Registers
  in_on = record r { in_manager = record r.in_manager { start = 6144; length = p.back; control = 34; activate = 1; full = false } }

  pub in_is_right : is_right 6144 34 in_on.in_manager ≡ true
  in_is_right = let same : (p.back == length r.in_manager.area) ≡ true = eq-eqb p.back (length r.in_manager.area) (sym b.back) in rw same refl

  pub in_set : IsBringing p n in_on k s
  in_set = record {
    node = ap (λ (x : Node Body S). record x { inn = record x.inn { box = None; request = false } }) b.node;
    out = b.out;
    back = b.back;
    status = b.status;
    code = b.code;
    refused = b.refused;
    state = b.state;
    word = b.word;
    called = b.called;
    station = b.station;
    first = b.first;
    second = λ behind. in_is_right;
  }

  -- with the word of the state that is opened
  abbrev pub word_waits : Registers
  word_waits = record r { al_control = number_at 2 (p.start ∷ 0 ∷ []) 0; unhandled = true }

  asks : (w : ℕ × Bool) → (registers_seen word_waits).control ≡ Some w → w ≡ (p.start, false)
  asks w is = sym (let same : Some w ≡ Some (p.start, false) = sym is ∙ go plan.start in (let e : w ≡ (p.start, false) = cc in sym e))
    where
      go : (p.start ≡ 2) ⊎ ((p.start ≡ 3) × (boot ≡ true)) → (registers_seen word_waits).control ≡ Some (p.start, false)
      go (inl two) = rw two refl
      go (inr three) = let e = three.0 in rw e refl

  pub word_set : 7 < n → IsBringing p n word_waits k s
  word_set late = record {
    node = b.node;
    out = b.out;
    back = b.back;
    status = b.status;
    code = b.code;
    refused = b.refused;
    state = b.state;
    word = λ w is. (asks w is, late);
    called = b.called;
    station = b.station;
    first = b.first;
    second = b.second;
  }

-- what an access makes of the registers
abbrev pub with_body : Raw.Datagram → Command → ℕ → ℕ → List ℕ → Raw.Datagram
with_body d c adp ado octets = record (aimed d c adp ado) { body = octets }

len_back : (start len control : ℕ) → len < 65536 → number_at 2 (manager_octets start len control 1) 2 ≡ len
len_back start len control few = omega arith

pub name_back : (station : ℕ) → station < 65536 → number_at 2 (little_bytes 2 station) 0 ≡ station
name_back station few = omega arith

module _ {S : Type 0} (boot : Bool) (lens : ℕ → Lens) (p : Plan) (plan : IsPlan boot lens p) (n : ℕ) (r : Registers) (k : Kept) (s : S) (b : IsBringing p n r k s) (d : Raw.Datagram) where
  pub address_met : (passed r (with_body d Apwr 0 16 (little_bytes 2 p.station))).registers ≡ record r { station = p.station }
  address_met = let e = name_back p.station plan.station in rw e refl

  pub out_met : r.station ≡ p.station → (passed r (with_body d Fpwr p.station 2048 (manager_octets 4096 p.out 38 1))).registers ≡ out_on boot lens p plan n r k s b
  out_met here =
      let same = eq-eqb p.station r.station (sym here) in
      let len = len_back 4096 p.out 38 plan.out in
      let empty = out_empty boot lens p plan n r k s b in
      rw (same, len, empty) refl

  pub in_met : r.station ≡ p.station → (passed r (with_body d Fpwr p.station 2056 (manager_octets 6144 p.back 34 1))).registers ≡ in_on boot lens p plan n r k s b
  in_met here =
      let same = eq-eqb p.station r.station (sym here) in
      let len = len_back 6144 p.back 34 plan.back in
      let empty = in_empty boot lens p plan n r k s b in
      rw (same, len, empty) refl

  pub word_met : r.station ≡ p.station → (passed r (with_body d Fpwr p.station 288 (p.start ∷ 0 ∷ []))).registers ≡ word_waits boot lens p plan n r k s b
  word_met here = let same = eq-eqb p.station r.station (sym here) in rw same refl

  pub status_met : r.station ≡ p.station → (passed r (with_body d Fprd p.station 304 (0 ∷ 0 ∷ 0 ∷ 0 ∷ 0 ∷ 0 ∷ []))).registers ≡ r
  status_met here = let same = eq-eqb p.station r.station (sym here) in rw same refl
