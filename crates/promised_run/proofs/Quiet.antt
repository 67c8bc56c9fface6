-- Mails that are quiet are fair.
use Rattle.std.proofs.Common.{◌≡◌, ◌&&◌, Bool, true, false, Ok, List, All, refl}
use Rattle.std.proofs.lemmas.List.Elements.{All-weaker}
use Rattle.seen_slaves.specs.of_few_replies.Packets.{is_fair}
use Rattle.run_promises.specs.of_run_work.Fair.{AsksFair}
use Rattle.run_promises.specs.Quiet.{AsksQuiet, is_quiet}
use Rattle.run_promises.specs.of_life_runs.Served.{Keyed, Serves}

left_of : (a b : Bool) → (a && b) ≡ true → a ≡ true
left_of true b e = refl
left_of false b e = absurd (cc)

pub all_fair : (ws : List Serves) → All AsksQuiet ws → All AsksFair ws
all_fair ws quiet =
    All-weaker AsksQuiet AsksFair (λ w all. All-weaker (λ (k : Keyed). is_quiet (Ok k.mail) ≡ true) (λ (k : Keyed). is_fair (Ok k.mail) ≡ true) (λ k e. left_of (is_fair (Ok k.mail)) _ e) w.asked all) ws quiet
