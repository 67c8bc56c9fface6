use Rattle.std.proofs.Common.{◌≡◌, ◌≤◌, ◌<◌, length, get_or, refl, sym, ap, subst, ◌∙◌, arith, List, ℕ}
use Rattle.arrayvec.specs.ArrayVec.{ArrayVec}
use Rattle.master_node.specs.declared.lan.Lan.{Lan}
use Rattle.master_node.proofs.Happenings.{from_host}
use Rattle.master_node.proofs.Ports.{long_here}
use Rattle.master_node.proofs.Begins.{takes_one}
use Rattle.master_node.proofs.Made.{makes_one}
use Rattle.master_node.proofs.lan.Lan.enter.Goals as goal

abbrev packet_by : List ℕ → ArrayVec ℕ
packet_by octets = record { items = octets }

-- the copy is the next packet of the host
copy_is : (host slice : List (ArrayVec ℕ)) (at : ℕ) (item copy : ArrayVec ℕ) → copy.items ≡ item.items → item ≡ get_or slice at item → slice ≡ host → copy ≡ get_or host at copy
copy_is host slice at item copy e f g =
    let same : copy ≡ item = ap (λ (z : List ℕ). packet_by z) e in
    same ∙ f ∙ ap (λ (z : List (ArrayVec ℕ)). get_or z at item) g ∙ ap (λ (z : ArrayVec ℕ). get_or host at z) (sym same)

copy_long : (l : Lan) (slice : List (ArrayVec ℕ)) (item copy : ArrayVec ℕ) → l.entered < length l.host → copy.items ≡ item.items → item ≡ get_or slice l.entered item → slice ≡ l.host → 14 ≤ length copy.items
copy_long l slice item copy inside e f g =
    subst (λ (z : ArrayVec ℕ). 14 ≤ length z.items) (sym (copy_is l.host slice l.entered item copy e f g)) (long_here l.host l.entered copy l.long inside)

pub arrive-requires-clause-long : goal.arrive-requires-clause-long
arrive-requires-clause-long c =
    copy_long c.args.self.now c.as_slice.result.now c.index-as_slice-self.result c.copy-packet.result (omega (arith, c.len.ensures)) c.copy-packet.ensures c.index-as_slice-self.is c.as_slice.ensures

pub returns-clause-happens : goal.returns-clause-happens
returns-clause-happens c =
    let l = c.args.self.now in
    from_host c.copy-packet.result l _ c.arrive.new.self refl refl refl refl (omega (arith, c.len.ensures))
    (copy_is l.host c.as_slice.result.now l.entered c.index-as_slice-self.result c.copy-packet.result c.copy-packet.ensures c.index-as_slice-self.is c.as_slice.ensures)
    (copy_long l c.as_slice.result.now c.index-as_slice-self.result c.copy-packet.result (omega (arith, c.len.ensures)) c.copy-packet.ensures c.index-as_slice-self.is c.as_slice.ensures) c.requires c.arrive.ensures

pub returns-clause-made : goal.returns-clause-made
returns-clause-made c = makes_one _ _ _ refl c.arrive.ensures.ports c.arrive.ensures.listed c.arrive.ensures.full

pub returns-clause-takes : goal.returns-clause-takes
returns-clause-takes c = takes_one _ _ _ _ c.arrive.ensures.ports c.arrive.ensures.listed c.arrive.ensures.switch refl
