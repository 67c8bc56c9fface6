-- The lemmas on how many mails a slave gives, at the types of the function.
use Rattle.few_replies.proofs.Few
use Rattle.few_replies.proofs.few_replies.Goals as goal

pub returns : goal.returns
returns g c = record {
  few = λ o p information element most profile tells enough al j b valid free begins. Few.replies o p information element most profile tells enough al j b valid free begins;
  free = λ o p al j b free begins. Few.frees o p al j b free begins;
}
