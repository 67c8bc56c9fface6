-- Field by field, each by what the link has in its place.
use Rattle.std.proofs.Common.{◌∙◌, ◌++◌, ap}
use Rattle.mailbox_master.specs.of_link_model.Link.{in_half_after, in_side_after, in_news}
use Rattle.mailbox_law.specs.Steps.{fate_of}
use Rattle.mailbox_law.specs.Waiting.{bodies_of}
use Rattle.mailbox_law.proofs.world.World.send_inward.Goals as goal

pub returns-clause-shows : goal.returns-clause-shows
returns-clause-shows c = λ w s.
    let sent = c.in_sent-inward.ensures in
    let fate = fate_of c.args.fate in
    record {
      out_half = s.out_half;
      in_half = sent.half ∙ (λ i. in_half_after (s.in_half i) (s.in_half i).state (s.inn i).box (s.inn i).acknowledge fate);
      out = sent.out c.args.self.slave_box ∙ s.out;
      inn = sent.inn c.args.self.slave_box ∙ (λ i. in_side_after (s.inn i) (s.in_half i).state (s.in_half i).bit fate);
      waiting = s.waiting;
      held = s.held;
      taken = s.taken;
      given = s.given;
      accepted = c.in_ok-accept.ensures ∙ ap (λ xs. bodies_of c.args.self.accepted ++ xs) sent.got ∙ (λ i. s.accepted i ++ in_news (s.in_half i) (s.in_half i).state (s.inn i).box fate);
    }
