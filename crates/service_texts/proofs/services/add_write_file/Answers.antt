use Rattle.std.proofs.Common.{ℕ, List, ◌++◌, codes, ap, ◌∙◌, append_assoc}
use Rattle.service_texts.specs.Services.{named, sized, write_file_text}
use Rattle.service_texts.proofs.services.add_write_file.Goals as goal

pub returns : goal.returns
unfolding write_file_text
returns c =
    c.in_ok-add_sized.ensures ∙ ap (λ (t : List ℕ). t ++ sized c.args.size) c.in_ok-add_named.ensures
    ∙ append_assoc c.args.line.now (named (codes "write_file ") c.args.name.now) (sized c.args.size)
