-- What a plan's slave keeps, as its master asks for its services.
use Rattle.std.proofs.Common.{◌≡◌, ℕ, ◌≤◌, Bool, true, false, refl, subst}
use Rattle.plan_ring.specs.of_frame_view.View.{Lens}
use Rattle.life_counts.specs.Begun.{KeepsShape}
use Rattle.life_counts.specs.of_few_replies.Counts.{mails_between}
use Rattle.life_counts.specs.of_few_replies.RowCounts.{AreCounted}
use Rattle.life_counts.specs.of_master_hand.Spoken.{Asked, sdo, file, drive, net, passed, hand_speech}
use Rattle.life_counts.specs.Asked.{asked_most}
use Rattle.plan_ring.specs.Asked.{asked, is_service, service_of}
use Rattle.plan_ring.proofs.Asked.{agrees}
use Rattle.plan_ring.specs.Real.{real_clearing}
use Rattle.life_counts.specs.of_few_replies.Shapes.{Shape, shape_at, shape_most}
use Rattle.life_counts.proofs.of_few_replies.Stays.{shape_stays}
use Rattle.life_counts.specs.of_slave_model.Application.{ArePartsLawful}
use Rattle.life_counts.specs.of_slave_model.Product.{product}
use Rattle.life_counts.specs.of_slave_model.Profile.{Profile, IsProfile, areas_of}
use Rattle.plan_ring.proofs.of_slave_model.Stations.{left_of, right_of}
use Rattle.plan_ring.specs.of_slave_parts.Parts.{parts}
use Rattle.run_work.specs.Gained.{app_shape}

-- a service of a plan by its own name
same_most : (p : Profile) (k : Shape) (q : Asked) → is_service q ≡ true → shape_most p k (service_of q).0 (service_of q).1 ≡ asked_most p k q
same_most p k (sdo q) e = refl
same_most p k (file q) e = refl
same_most p k (drive q) e = refl
same_most p k (net q) e = refl
same_most p k (passed m) e = absurd (let no : false ≡ true = e in cc)

pub keeps_shape : ArePartsLawful parts → (p : Profile) → IsProfile p → AreCounted (product parts p) shape_at (λ k q. shape_most p k q.0 q.1) → (boot : Bool) (lens : ℕ → Lens) →
    KeepsShape (asked p boot lens) real_clearing app_shape (asked_most p)
keeps_shape law p is counted boot lens = record {
  counted = record {
    within = λ v q ready valid.
        let service = left_of (is_service q) ((hand_speech (areas_of p)).valid q) valid in
        let there = (agrees p).valid q service (right_of (is_service q) ((hand_speech (areas_of p)).valid q) valid) in
        subst (λ n. mails_between (product parts p) v (service_of q) ≤ n) (same_most p (shape_at v) q service) (counted.within v (service_of q) ready there);
    stays = λ v q ready valid.
        let service = left_of (is_service q) ((hand_speech (areas_of p)).valid q) valid in
        let there = (agrees p).valid q service (right_of (is_service q) ((hand_speech (areas_of p)).valid q) valid) in
        counted.stays v (service_of q) ready there;
  };
  exec = λ a q. shape_stays p a.state (service_of q).0 a.inner (service_of q).1;
  told = λ state a. refl;
  cleared = λ a. refl;
}
