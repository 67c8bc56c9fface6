use Rattle.std.proofs.Common.{subst, sym, rules, ap, ◌∙◌}
use Rattle.master_duty.specs.of_state_model.Accounts.{duty_access}
use Rattle.master_side.specs.declared.carried.Carried.{Carried}
use Rattle.master_side.specs.Carried.{Meant, one}
use Rattle.master_side.proofs.Backs.{write_back}
use Rattle.std.specs.Prelude.{Option}
use Rattle.master_side.specs.declared.passing.Passing.{Passing}
use Rattle.master_side.specs.Passes.{written_by}
use Rattle.frame_view.specs.of_life_model.Lives.{passes}
use Rattle.master_side.specs.Passing.{PassingShows, counts_at, news_back}
use Rattle.master_side.proofs.Passings.{sent_shows}
use Rattle.master_side.proofs.Tellings.{write_seen}
use Rattle.master_side.proofs.side.Side.write_back.Goals as goal

pub returns : goal.returns
returns g c = λ octets made. record {
  shown = λ x frame b d a s w i.
      let args = c.args.self.now in
      write_back x (g.H.Hand.shows args.hand x) args.out args.inn args.fresh args.duty d a args.station b frame c.args.counter octets c.answered.new.self c.answered.ensures.half (g.met.H.Hand.quiet args.hand x frame) s
      (subst (λ (k : Carried). Meant args.station k d.halves (duty_access a.hand) b) c.requires w) i;
  link = search rules;
  paused = search rules;
  turn = search rules;
  script = search rules;
  unpassed = search rules;
  passing = λ x kept p b d a s k h w i.
      let args = c.args.self.now in
      let counts = counts_at args.read_at args.pace made in
      let meant = subst (λ (k : Carried). Meant args.station k d.halves (duty_access a.hand) b) c.requires w in
      let life = passes x g.H.Hand.acknowledged g.H.Hand.more g.H.Hand.passed p (news_back args.station kept counts (one b)) in
      let is = c.written-passing.ensures ∙ ap (λ (o : Option Passing). written_by o c.args.counter) c.told.ensures in
      subst (λ (o : Option Passing). PassingShows (g.H.Hand.awaits args.hand) o life) (sym is)
      (sent_shows args.passing args.fresh c.args.counter (g.H.Hand.awaits args.hand) p life (write_seen x g.H.Hand.acknowledged g.H.Hand.more g.H.Hand.passed args.station kept b d a args.passing args.fresh counts p c.args.counter octets s.unsent k meant i h.is) h);
  read = search rules;
  brought = search rules;
  replied = search rules;
  joined = search rules;
  knows = search rules;
  sure = search rules;
}
