-- A MASTER SPEAKS of each service as the client of its protocol does, and of a mail that is passed on by that mail alone.
use Rattle.std.proofs.Common.{◌≡◌, ◌&&◌, Bool, true, false, List, [], ◌++◌, inl, inr, refl, ap, ap₂, sym, ◌∙◌, Ok}
use Rattle.std.specs.Prelude.{Some, option_map}
use Rattle.served_places.specs.of_exchange_model.Exchange.{Exchange, AnswersLast, given, outnumbers, plain}
use Rattle.served_places.specs.of_exchange_model.Refusing.{Refusal}
use Rattle.run_work.specs.of_master_hand.Spoken as Spoken
use Rattle.served_places.specs.of_link_mails.Body.{Body}
use Rattle.served_places.specs.of_serving_model.Tagged.{untag, told}
use Rattle.served_places.specs.of_serving_model.TaggedStates.{IsStatedServed}
use Rattle.run_work.proofs.of_serving_model.TaggedLaw.{untag-told}
use Rattle.run_work.specs.of_slave_parts.Whole.{gated_whole}
use Rattle.run_work.specs.of_slave_model.Acknowledged.{acknowledged}
use Rattle.run_work.specs.of_slave_model.Product.{refusal}
use Rattle.run_work.specs.of_slave_model.Profile.{Protocol, Profile, areas_of, serves}
use Rattle.run_work.specs.of_slave_model.Server.{ServiceOf}
use Rattle.run_work.specs.of_slave_parts.Parts.{Server, parts}
use Rattle.run_work.specs.of_slave_parts.Served.{product_whole, served_whole, side_whole}
use Rattle.served_places.specs.of_state_model.Families.{InState}
use Rattle.served_places.specs.of_state_model.Stated.{IsStated}
use Rattle.run_work.specs.Sessions.{OwnService, named}
use Rattle.run_work.specs.of_life_counts.Spoken.{IsScript, IsNamed, Speaks}
use Rattle.served_rings.specs.Speakers.{naming_of, spoken, spoken_states, whole_states}

-- a client is that of its protocol, served or not
gated_speech : {V M Q R : Type 0} (b : Bool) (x : Exchange V V M Q R) (r : Refusal V M Q R) → (gated_whole b x r).speech ≡ x.speech
gated_speech true x r = refl
gated_speech false x r = refl

module _ (p : Profile) where
  side_speech : (i : Protocol) → (side_whole parts p 0 i).speech ≡ (served_whole parts p 0 i).speech
  side_speech i = gated_speech (serves p 0 i) (served_whole parts p 0 i) (refusal parts p 0 i)

  pub script : (i : Protocol) (q : ServiceOf i) → IsScript (naming_of p) (product_whole parts p).speech acknowledged (i, q) (named i q)
  script Protocol.CoE q = record {
    named = refl;
    valid = sym (ap (λ x. x.valid q) (side_speech Protocol.CoE));
    handed = sym (ap (λ x. x.handed q) (side_speech Protocol.CoE));
    planned = λ hs. sym (ap (λ x. x.planned q hs) (side_speech Protocol.CoE));
    ends = λ hs. sym (ap (λ x. option_map (λ r. Some r) (x.ends q hs)) (side_speech Protocol.CoE));
    last = refl;
    unpassed = refl;
  }
  script Protocol.FoE q = record {
    named = refl;
    valid = sym (ap (λ x. x.valid q) (side_speech Protocol.FoE));
    handed = sym (ap (λ x. x.handed q) (side_speech Protocol.FoE));
    planned = λ hs. sym (ap (λ x. x.planned q hs) (side_speech Protocol.FoE));
    ends = λ hs. sym (ap (λ x. option_map (λ r. Some r) (x.ends q hs)) (side_speech Protocol.FoE));
    last = refl;
    unpassed = refl;
  }
  script Protocol.SoE q = record {
    named = refl;
    valid = sym (ap (λ x. x.valid q) (side_speech Protocol.SoE));
    handed = sym (ap (λ x. x.handed q) (side_speech Protocol.SoE));
    planned = λ hs. sym (ap (λ x. x.planned q hs) (side_speech Protocol.SoE));
    ends = λ hs. sym (ap (λ x. option_map (λ r. Some r) (x.ends q hs)) (side_speech Protocol.SoE));
    last = refl;
    unpassed = refl;
  }
  script Protocol.EoE q = record {
    named = refl;
    valid = sym (ap (λ x. x.valid q) (side_speech Protocol.EoE));
    handed = sym (ap (λ x. x.handed q) (side_speech Protocol.EoE));
    planned = λ hs. sym (ap (λ x. x.planned q hs) (side_speech Protocol.EoE));
    ends = λ hs. sym (ap (λ x. option_map (λ r. Some r) (x.ends q hs)) (side_speech Protocol.EoE));
    last = refl;
    unpassed = refl;
  }

  names : (t : Spoken.Asked) → IsNamed (naming_of p) (product_whole parts p).speech acknowledged t
  names (Spoken.sdo q) = inl ((Protocol.CoE, q), script Protocol.CoE q)
  names (Spoken.file q) = inl ((Protocol.FoE, q), script Protocol.FoE q)
  names (Spoken.drive q) = inl ((Protocol.SoE, q), script Protocol.SoE q)
  names (Spoken.net q) = inl ((Protocol.EoE, q), script Protocol.EoE q)
  names (Spoken.passed m) = inr (Ok m, record { named = λ answers. refl; valid = refl; handed = refl; planned = λ hs. refl; ends = λ hs. refl; last = refl; passes = refl })

  pub speaks : Speaks (naming_of p) (product_whole parts p).speech acknowledged
  speaks = record { emission = refl; names = names }

  -- THE AL STATE is a part of what its node runs
  module _ (is : IsStatedServed (product_whole parts p) whole_states) where
    script_last : (i : Protocol) (q : ServiceOf i) (v : InState Server) → (product_whole parts p).ready v ≡ true → (Spoken.hand_speech (areas_of p)).valid (named i q) ≡ true → (Spoken.hand_speech (areas_of p)).handed (named i q) ≡ false →
        (let ms = untag (told {M = Body} {Q = OwnService} (i, q) ((product_whole parts p).full v (i, q))) in
        (Spoken.acknowledged (named i q) && outnumbers ms (plain (product_whole parts p).speech.emission (given (product_whole parts p).serve v ms))) ≡ false) →
        (a b : List Body) → untag (told {M = Body} {Q = OwnService} (i, q) ((product_whole parts p).full v (i, q))) ≡ a ++ b →
        plain (product_whole parts p).speech.emission (given (product_whole parts p).serve v a) ≡ plain (product_whole parts p).speech.emission (given (product_whole parts p).serve v (untag (told {M = Body} {Q = OwnService} (i, q) ((product_whole parts p).full v (i, q))))) → b ≡ []
    script_last i q v ready valid handed ack a b e same =
        let k = script i q in
        let x = product_whole parts p in
        let all = untag-told {M = Body} {Q = OwnService} (i, q) (x.full v (i, q)) in
        is.last v (i, q) ready (sym k.valid ∙ valid) (sym k.handed ∙ handed) (ap₂ (λ (c : Bool) (l : List Body). c && outnumbers l (plain x.speech.emission (given x.serve v l))) (sym k.last) (sym all) ∙ ack) a b (sym all ∙ e) (same ∙ ap (λ l. plain x.speech.emission (given x.serve v l)) all)

    last : AnswersLast (spoken p) Spoken.acknowledged
    last v (Spoken.sdo q) ready valid handed ack a b e same = script_last Protocol.CoE q v ready valid handed ack a b e same
    last v (Spoken.file q) ready valid handed ack a b e same = script_last Protocol.FoE q v ready valid handed ack a b e same
    last v (Spoken.drive q) ready valid handed ack a b e same = script_last Protocol.SoE q v ready valid handed ack a b e same
    last v (Spoken.net q) ready valid handed ack a b e same = script_last Protocol.EoE q v ready valid handed ack a b e same
    last v (Spoken.passed m) ready valid handed ack a b e same = absurd (let no : true ≡ false = handed in cc)

    keeps : (v : InState Server) (t : Spoken.Asked) → ((spoken p).exec v t).state ≡ v.state
    keeps v (Spoken.sdo q) = is.keeps v (Protocol.CoE, q)
    keeps v (Spoken.file q) = is.keeps v (Protocol.FoE, q)
    keeps v (Spoken.drive q) = is.keeps v (Protocol.SoE, q)
    keeps v (Spoken.net q) = is.keeps v (Protocol.EoE, q)
    keeps v (Spoken.passed m) = is.stays v (Ok m)

    pub stated : IsStated (spoken p) spoken_states
    stated = record {
      ready = is.ready;
      handled = is.handled;
      app = λ state v. refl;
      is = λ state v. refl;
      same = λ v. refl;
      stays = is.stays;
      keeps = keeps;
      last = last;
    }
