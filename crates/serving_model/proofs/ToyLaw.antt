-- The adder owes the laws of a server in whatever state it is, so sums, posts and mails that are passed on are one lawful exchange.
use Rattle.std.proofs.Common.{◌≡◌, ◌≢◌, ◌⊎◌, inl, inr, suc, List, [], ◌++◌, refl}
use Rattle.state_model.specs.of_exchange_model.Exchange.{IsLawful, Behind, after}
use Rattle.state_model.specs.of_exchange_model.Toy.{Mail, Service, sum, post, Adder, adder}
use Rattle.state_model.proofs.of_exchange_model.Toys.{adder_law}
use Rattle.serving_model.specs.Tagged.{IsServed, Untouched, Touched, tagged}
use Rattle.serving_model.specs.Toy.{behind, served_adder, value_of}
use Rattle.serving_model.proofs.TaggedLaw.{tagged_lawful}

touched : (v : Adder) (q : Service) (p : List Mail) → Behind adder v q p → Touched served_adder value_of v q p
touched v (sum n) p b = record { core_is = b.app; handled = b.handled; emitted = b.emitted }
touched v (post n) p b = record { core_is = b.app; handled = b.handled; emitted = b.emitted }

part : (v : Adder) (q : Service) (p r : List Mail) → adder.full v q ≡ p ++ r → Untouched served_adder value_of v p ⊎ Touched served_adder value_of v q p
part v q p r e = elim (adder_law.part v q refl refl p r e) [
  | inl b ↦ inl (record { core_is = b.app; handled = b.handled; emitted = b.emitted })
  | inr b ↦ inr (touched v q p b)
]

whole : (v : Adder) (q : Service) → after adder.serve v (adder.full v q) ≡ behind v q
whole v (sum n) = refl
whole v (post n) = refl

counts : (v : Adder) (q : Service) → (behind v q).handled ≡ suc v.handled
counts v (sum n) = refl
counts v (post n) = refl

full_some : (v : Adder) (q : Service) → adder.full v q ≢ []
full_some v (sum n) none = absurd (cc)
full_some v (post n) none = absurd (cc)

pub served : IsServed served_adder value_of
served = record {
  ready = λ v q ready valid. refl;
  passes = λ v m ready. refl;
  whole = λ v q ready valid. whole v q;
  counts = λ v q ready valid. counts v q;
  all_emitted = λ v q ready valid. adder_law.all_emitted v q refl refl;
  replied = λ v q ready valid. adder_law.replied v q refl refl;
  silent = λ v q ready valid. adder_law.silent v q refl refl;
  part = λ v q ready valid. part v q;
  counted = λ v q ready valid nay p r e same. touched v q p (adder_law.counted v q refl refl nay p r e same);
  none = adder_law.none;
  ended = adder_law.ended;
  follows = λ v q ready valid. adder_law.follows v q refl refl;
  all_planned = λ v q ready valid. adder_law.all_planned v q refl refl;
  unanswered = adder_law.unanswered;
  some = λ v q ready valid. full_some v q;
  grows = adder_law.grows;
}

pub toy_lawful : IsLawful (tagged served_adder)
toy_lawful = tagged_lawful served_adder value_of served
