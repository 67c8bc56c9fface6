use Rattle.std.proofs.Common.{◌++◌, ◌+◌, sym, ap, ◌∙◌, arith, length, drop, refl}
use Rattle.byteorder.specs.Endian.{little_bytes}
use Rattle.ec_fields.specs.Transfer.{Limited}
use Rattle.object_dictionary.specs.Information.{list_octets}
use Rattle.object_dictionary.proofs.Tests.{stands}
use Rattle.object_dictionary.proofs.Listed.{listed, skipped, joined, longer}
use Rattle.object_dictionary.proofs.objects.Objects.put_list.Goals.{in-Some+then-is_in_list, in-Some+else-is_in_list, in_default}
use Rattle.object_dictionary.proofs.objects.Objects.put_list.Goals as goal

pub loop-at-preserved : goal.loop-at-preserved
loop-at-preserved c = let i = c.loop-at.invariant in elim c.match-get_index.branch [
  | in-Some+then-is_in_list w ↦
      let one = listed c.args.kind c.loop-at.at w.in-Some.index.now w.in-Some.object.now c.self.inside.table.entries (sym w.in-Some.ensures.entry) (cc) in
      let put = ap (λ (x : Limited). x.octets) w.into-is ∙ w.put_number.ensures.octets in (
        joined c.loop-at.into.octets c.match-get_index.into.octets (little_bytes 2 w.in-Some.index.now) (list_octets c.args.kind (drop c.loop-at.at c.self.inside.table.entries))
            (list_octets c.args.kind (drop (c.loop-at.at + 1) c.self.inside.table.entries)) (c.args.into.now.octets ++ list_octets c.args.kind c.self.inside.table.entries) put one i.0,
        longer c.loop-at.into.octets c.match-get_index.into.octets (little_bytes 2 w.in-Some.index.now) c.loop-at.at (length c.args.into.now.octets) put refl i.1,
        ap (λ (x : Limited). x.limit) w.into-is ∙ w.put_number.ensures.limit ∙ i.2,
      )
  | in-Some+else-is_in_list w ↦
      let none = skipped c.args.kind c.loop-at.at w.in-Some.index.now w.in-Some.object.now c.self.inside.table.entries (sym w.in-Some.ensures.entry) (cc) in
      let same = ap (λ (x : Limited). x.octets) w.into-is in
      let len = ap length same in (
        ap (λ l. l ++ list_octets c.args.kind (drop (c.loop-at.at + 1) c.self.inside.table.entries)) same ∙ ap (λ l. c.loop-at.into.octets ++ l) (sym none) ∙ i.0,
        omega (arith, len, i.1),
        ap (λ (x : Limited). x.limit) w.into-is ∙ i.2,
      )
  | in_default w ↦ absurd (stands c.self.inside.table.entries c.loop-at.at (omega arith) (sym w.in_default.ensures.entry))
]
