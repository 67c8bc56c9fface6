use Rattle.std.proofs.Common.{◌≡◌, true, subst, sym, ap, ◌∙◌, List, Option, rules}
use Rattle.std.specs.Prelude.{option_map, ◌&&◌, ◌==◌, if◌then◌else◌, map}
use Rattle.frame_view.specs.of_exchange_model.Rows.{row_heard}
use Rattle.master_duty.specs.of_segment_model.Seats.{side_back}
use Rattle.master_duty.specs.of_mailbox_mail.declared.mail.MailView.{MailView}
use Rattle.master_side.specs.declared.carried.Carried.{Carried}
use Rattle.master_duty.specs.of_state_model.Accounts.{duty_access, account_back}
use Rattle.master_side.specs.Carried.{Meant, one}
use Rattle.mailbox_master.specs.of_link_mails.Body.{Body}
use Rattle.mailbox_master.specs.Any.{in_half_of}
use Rattle.master_side.specs.Due.{EachDue}
use Rattle.master_side.specs.Heard.{heard_of, Brought, HasJoined}
use Rattle.master_side.proofs.Backs.{inward_back, inward_accepts, kept_side, view_short}
use Rattle.mailbox_master.specs.of_link_model.Link.{Halves}
use Rattle.master_duty.specs.of_segment_model.Record.{News}
use Rattle.frame_view.specs.of_life_model.Lives.{passes}
use Rattle.master_side.specs.Passes.{empty_by}
use Rattle.master_side.specs.Passing.{PassingShows, passing_seen, counts_at}
use Rattle.master_duty.specs.of_segment_model.Ends as Ends
use Rattle.master_side.proofs.Passings.{read_shows}
use Rattle.master_side.proofs.Tellings.{inward_seen}
use Rattle.master_side.proofs.side.Side.inward_back.Goals as goal

pub returns : goal.returns
returns g c = record {
  shown = λ x frame b d a s w i.
      let args = c.args.self.now in
      let next = g.H.Hand.shows c.hear.new.self.hand x in
      let k = c.read_done.ensures.kept in
      let h = c.hear.ensures.kept in
      kept_side next args.out c.hear.new.self.out c.returned-got.new.self c.hear.new.self.inn args.fresh c.hear.new.self.fresh args.duty c.hear.new.self.duty (side_back x frame args.station (one b) d) (account_back args.station frame a (one b)) (h.0 ∙ k.0, h.1 ∙ k.1, h.2 ∙ k.2, h.3 ∙ k.3)
      (inward_back x (g.H.Hand.shows args.hand x) args.out args.inn args.fresh args.duty d a args.station b frame c.args.counter c.args.octets.now c.returned-got.new.self next c.returned-got.result c.returned-got.ensures.half c.returned-got.ensures.got
      (λ n now t. subst (λ (o : Option MailView). next (option_map (λ r. row_heard x n (heard_of o) r) now)) c.view_in.ensures (c.hear.ensures.shown x n now (subst (λ z. g.H.Hand.shows z x now) (sym k.4) t)))
      s (subst (λ (k : Carried). Meant args.station k d.halves (duty_access a.hand) b) c.requires w) i);
  link = search rules;
  paused = search rules;
  turn = search rules;
  script = search rules;
  unpassed = search rules;
  passing = λ x kept p b d a s k h w i.
      let args = c.args.self.now in
      let mid = c.read_done.new.self in
      let new = c.hear.new.self in
      let r = c.read_done.ensures.kept in
      let counts = counts_at args.read_at args.pace c.args.made in
      let empty = c.is_some-was_read.result && (c.args.counter == 0 && counts) in
      let after = passing_seen (if empty then empty_by args.passing else args.passing) in
      let meant = subst (λ (k : Carried). Meant args.station k d.halves (duty_access a.hand) b) c.requires w in
      let read = read_shows args.passing mid.passing empty (g.H.Hand.awaits mid.hand) c.read_done.ensures.passing (λ t. subst (λ z. g.H.Hand.awaits z ≡ true) (sym r.4) (h.awaited t)) in
      let row = subst (λ z. g.H.Hand.shows z x d.now) (sym r.4) s.row in
      let is = inward_seen x g.H.Hand.acknowledged g.H.Hand.more g.H.Hand.passed args.station kept b d a args.passing counts c.is_some-was_read.result p c.args.counter c.args.octets.now (in_half_of args.inn) c.returned-got.result k
      (ap (λ (h : Halves Body). h.inn) s.halves) c.is_some-was_read.ensures c.returned-got.ensures.got meant i h.is
      ∙ ap (λ (o : Option MailView). passes x g.H.Hand.acknowledged g.H.Hand.more g.H.Hand.passed after (map (λ m. News.Heard m) (heard_of o))) (sym c.view_in.ensures) in
      subst (λ (q : Option Ends.Passing). PassingShows (g.H.Hand.awaits new.hand) new.passing q) (sym is) (c.hear.ensures.passing x after d.now row read);
  read = search rules;
  brought = λ n x b d a s w i.
      let args = c.args.self.now in
      let new = c.hear.new.self in
      let accepts = inward_accepts x (g.H.Hand.shows args.hand x) args.out args.inn args.fresh args.duty d a args.station b c.args.counter c.args.octets.now c.returned-got.result c.returned-got.ensures.got s
      (subst (λ (k : Carried). Meant args.station k d.halves (duty_access a.hand) b) c.requires w) i in
      subst (λ (ms : List Body). Brought (g.H.Hand.brings new.hand) new.heard ms) (ap heard_of c.view_in.ensures ∙ sym accepts) (c.hear.ensures.brought (c.read_done.ensures.kept.5 ∙ n));
  replied = λ n x b d a s w i.
      let args = c.args.self.now in
      let new = c.hear.new.self in
      let accepts = inward_accepts x (g.H.Hand.shows args.hand x) args.out args.inn args.fresh args.duty d a args.station b c.args.counter c.args.octets.now c.returned-got.result c.returned-got.ensures.got s
      (subst (λ (k : Carried). Meant args.station k d.halves (duty_access a.hand) b) c.requires w) i in
      subst (λ (ms : List Body). Brought (g.H.Hand.replied new.hand (g.H.Hand.awaits args.hand)) new.heard ms) (ap heard_of c.view_in.ensures ∙ sym accepts)
      (subst (λ z. Brought (g.H.Hand.replied new.hand (g.H.Hand.awaits z)) new.heard (heard_of c.view_in.result)) c.read_done.ensures.kept.4
      (c.hear.ensures.replied (c.read_done.ensures.kept.5 ∙ n)));
  joined = λ n x b d a s w i.
      let args = c.args.self.now in
      let new = c.hear.new.self in
      let accepts = inward_accepts x (g.H.Hand.shows args.hand x) args.out args.inn args.fresh args.duty d a args.station b c.args.counter c.args.octets.now c.returned-got.result c.returned-got.ensures.got s
      (subst (λ (k : Carried). Meant args.station k d.halves (duty_access a.hand) b) c.requires w) i in
      subst (λ (ms : List Body). HasJoined g.H.Hand.joined (g.H.Hand.completed new.hand) (g.H.Hand.join args.hand) (g.H.Hand.join new.hand) new.heard ms) (ap heard_of c.view_in.ensures ∙ sym accepts)
      (subst (λ z. HasJoined g.H.Hand.joined (g.H.Hand.completed new.hand) (g.H.Hand.join z) (g.H.Hand.join new.hand) new.heard (heard_of c.view_in.result)) c.read_done.ensures.kept.4
      (c.hear.ensures.joined (c.read_done.ensures.kept.5 ∙ n)));
  knows = λ x b d a s w i k e.
      let args = c.args.self.now in
      let accepts = inward_accepts x (g.H.Hand.shows args.hand x) args.out args.inn args.fresh args.duty d a args.station b c.args.counter c.args.octets.now c.returned-got.result c.returned-got.ensures.got s
      (subst (λ (k : Carried). Meant args.station k d.halves (duty_access a.hand) b) c.requires w) i in
      let same = sym c.read_done.ensures.kept.4 in
      c.hear.ensures.knows x d.now (subst (λ z. g.H.Hand.shows z x d.now) same s.row) (subst (λ z. g.H.Hand.knows z ≡ true) same k)
      (subst (λ (ms : List Body). EachDue x d.now ms) (accepts ∙ sym (ap heard_of c.view_in.ensures)) e);
  sure = λ k. subst (λ z. g.H.Hand.knows z ≡ true) c.read_done.ensures.kept.4 (c.hear.ensures.sure k);
}

pub hear-requires : goal.hear-requires
hear-requires g c =
    let half = in_half_of c.args.self.now.inn in
    view_short c.returned-got.result c.view_in.result half half.state c.args.counter c.args.octets.now c.returned-got.ensures.got c.view_in.ensures
