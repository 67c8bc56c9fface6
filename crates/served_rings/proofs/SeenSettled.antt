-- A SLAVE THAT IS SETTLED as another sees its mails is settled.
use Rattle.std.proofs.Common.{◌≡◌, Option, None, Some, List, [], ◌∷◌, map, refl}
use Rattle.served_places.specs.of_link_model.Mails.{LinkMail}
use Rattle.served_places.specs.of_segment_model.Laws.{IsSettled}
use Rattle.served_places.specs.of_segment_model.Slaves.{Slave}
use Rattle.served_places.specs.of_serving_model.Erasing.{box_as, mail_as, slave_as}

pub unmapped : {X Y : Type 0} (f : X → Y) (xs : List X) → map f xs ≡ [] → xs ≡ []
unmapped f [] e = refl
unmapped f (x ∷ xs) e = absurd (let no : f x ∷ map f xs ≡ [] = e in cc)

module _ {N M W V : Type 0} (f : N → M) (server : W → V) (n : Slave W N) where
  pub none_box : (b : Option (LinkMail N)) → box_as f b ≡ None → b ≡ None
  none_box None e = refl
  none_box (Some m) e = absurd (let no : Some (mail_as f m) ≡ None = e in cc)

  pub settled_back : IsSettled (slave_as f server n) → IsSettled n
  settled_back k = record {
    first = none_box n.node.out.box k.first;
    second = none_box n.node.inn.box k.second;
    withdrawn = none_box n.node.inn.withdrawn k.withdrawn;
    waiting = unmapped f n.node.server.waiting k.waiting;
  }
