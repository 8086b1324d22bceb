-- The opening of a header is sound, where its legs tell their contents.
use Rattle.std.proofs.Common.{◌⊎◌, inl, inr, sym, subst, ◌∙◌}
use Rattle.std.specs.Prelude.{◌≢◌}
use Rattle.md_superblock.specs.Arrays.{AreBytes}
use Rattle.cluster_model.specs.State.{State}
use Rattle.cluster_model.specs.Contents.{Opens, IsHeader, IsImages, AllTell, SoundOpening}
use Rattle.cluster_model.specs.Opening.{Origin}
use Rattle.laws_roles.specs.Laws.{Tells}
use Rattle.laws_roles.proofs.Headers.{header_name, header_uuid}
use Rattle.laws_writes.proofs.Headers.{headers_are_sound}
use Rattle.laws_history.proofs.Places.{legs_tell}
use Rattle.laws_promises.specs.Laws.{HeadersKeepTheirPromises}
use Rattle.laws_promises.proofs.Promises.{promised}

module _ (o : Origin) (start : State) (header : IsHeader o start.legs)
    (told : AllTell o start.legs) where
  pub header_sound : Opens o start → SoundOpening o start
  header_sound opens = headers_are_sound o start opens header told

  pub header_tells : Tells o start
  header_tells = record {
    legs = told;
    name = subst (λ (x : Origin). AreBytes 32 x.name) (sym header.header) (header_name o.sizes header.nodes header.spares o.warm);
    uuid = subst (λ (x : Origin). AreBytes 16 x.uuid) (sym header.header) (header_uuid o.sizes header.nodes header.spares o.warm);
  }

-- images have no members
is_header : (o : Origin) (start : State) → o.members ≢ 0
    → IsHeader o start.legs ⊎ IsImages o start.legs → IsHeader o start.legs
is_header o start some (inl header) = header
is_header o start some (inr images) = absurd (some images.nobody.0)

pub headers_keep : HeadersKeepTheirPromises
headers_keep o start end past opens some run told =
    let header = is_header o start some opens.contents in
    let at_start : AllTell o start.legs = λ l lt. sym (legs_tell start past end run l) ∙ told l lt in
    promised o start (header_sound o start header at_start opens) (header_tells o start header at_start) end past run
