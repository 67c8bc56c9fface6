-- Accesses that read leave a slave's registers; and the word of the state that is opened waits where it was met.
use Rattle.std.proofs.Common.{◌≡◌, ◌⊎◌, inl, inr, ℕ, Bool, true, false, Some, List, [], ◌∷◌, refl, sym, ap, ◌∙◌, subst, eq-eqb}
use Rattle.frames_seen.specs.of_datagrams.declared.command.Command.TheVariants.{Fprd, Fpwr}
use Rattle.frames_seen.specs.of_datagrams.Datagram as Raw
use Rattle.frames_seen.specs.of_ec_fields.Fields.{number_at}
use Rattle.frames_seen.specs.of_esc_registers.declared.registers.Registers as Esc
use Rattle.frames_seen.specs.of_slave_node.Passing.{passed, registers_after}
use Rattle.frames_seen.specs.of_frame_view.View.{Lens}
use Rattle.frames_seen.specs.Slaves.{registers_seen}
use Rattle.frames_seen.proofs.Owns.{unmoved}
use Rattle.slave_lives.specs.Opening.{Plan, IsPlan, IsAccess, AtMostOne, JustOne}
use Rattle.slave_lives.proofs.Brings.{with_body}
use Rattle.slave_lives.proofs.Openings.{the_access, none_moves}

-- the two accesses that await a step: the status is read by place while the return to Init is watched, and by station at the end
pub data Reads (p : Plan) (r : Esc.Registers) : ℕ → Type 0 where
  watch : Reads p r 2
  status : r.station ≡ p.station → Reads p r 9

read_met : (p : Plan) (r : Esc.Registers) (turn : ℕ) (d : Raw.Datagram) → Reads p r turn → IsAccess p turn d → (passed r d).registers ≡ r
read_met p r turn d Reads.watch a = ap (λ e. (passed r e).registers) (the_access p 2 d a)
read_met p r turn d (Reads.status here) a = ap (λ e. (passed r e).registers) (the_access p 9 d a) ∙ by
  where
    by : (passed r (with_body d Fprd p.station 304 (0 ∷ 0 ∷ 0 ∷ 0 ∷ 0 ∷ 0 ∷ []))).registers ≡ r
    by = let same = eq-eqb p.station r.station (sym here) in rw same refl

pub reads_leave : (p : Plan) (r : Esc.Registers) (turn : ℕ) (ds : List Raw.Datagram) → Reads p r turn → AtMostOne p turn r ds → registers_after r ds ≡ r
reads_leave p r turn [] k one = refl
reads_leave p r turn (d ∷ ds) k (inl other) =
    let same = unmoved r d other.0 in
    ap (λ q. registers_after q ds) same ∙ reads_leave p r turn ds k (subst (λ q. AtMostOne p turn q ds) same other.1)
reads_leave p r turn (d ∷ ds) k (inr mine) = none_moves (passed r d).registers ds mine.2 ∙ read_met p r turn d k mine.0

-- ---- the word of the state that is opened
module _ (boot : Bool) (lens : ℕ → Lens) (p : Plan) (plan : IsPlan boot lens p) where
  abbrev asking : Esc.Registers → Esc.Registers
  asking r = record r { al_control = number_at 2 (p.start ∷ 0 ∷ []) 0; unhandled = true }

  asks : (r : Esc.Registers) → (registers_seen (asking r)).control ≡ Some (p.start, false)
  asks r = go plan.start
    where
      go : (p.start ≡ 2) ⊎ ((p.start ≡ 3) × (boot ≡ true)) → (registers_seen (asking r)).control ≡ Some (p.start, false)
      go (inl two) = rw two refl
      go (inr three) = let e = three.0 in rw e refl

  word_met : (r : Esc.Registers) (d : Raw.Datagram) → r.station ≡ p.station → IsAccess p 8 d → (registers_seen (passed r d).registers).control ≡ Some (p.start, false)
  word_met r d here a = ap (λ e. (registers_seen (passed r e).registers).control) (the_access p 8 d a) ∙ ap (λ q. (registers_seen q).control) by ∙ asks r
    where
      by : (passed r (with_body d Fpwr p.station 288 (p.start ∷ 0 ∷ []))).registers ≡ asking r
      by = let same = eq-eqb p.station r.station (sym here) in rw same refl

  pub word_waits : (r : Esc.Registers) (ds : List Raw.Datagram) → r.station ≡ p.station → JustOne p 8 r ds → (registers_seen (registers_after r ds)).control ≡ Some (p.start, false)
  word_waits r [] here one = absurd one
  word_waits r (d ∷ ds) here (inl other) =
      let same = unmoved r d other.0 in
      ap (λ q. (registers_seen (registers_after q ds)).control) same ∙ word_waits r ds here (subst (λ q. JustOne p 8 q ds) same other.1)
  word_waits r (d ∷ ds) here (inr mine) = ap (λ q. (registers_seen q).control) (none_moves (passed r d).registers ds mine.2) ∙ word_met r d here mine.0
