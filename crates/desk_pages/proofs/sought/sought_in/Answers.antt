-- each part by itself
use Rattle.std.proofs.Common.{refl}
use Rattle.desk_pages.proofs.sought.sought_in.Goals as goal

pub returns : goal.returns
returns c =
    rw (
      c.sought_words.ensures,
      c.sought_by.ensures,
      c.sought_by-2.ensures,
      c.sought_by-3.ensures,
      c.sought_by-4.ensures,
      c.sought_by-5.ensures,
      c.sought_by-6.ensures,
      c.sought_by-7.ensures,
      c.sought_by-8.ensures,
      c.sought_by-9.ensures,
      c.sought_turn.ensures,
      c.owner_front.ensures,
      c.owner_value.ensures,
      c.asker.ensures,
      c.as_str-owner.ensures,
      c.as_str.ensures,
      c.as_str-2.ensures,
      c.as_str-3.ensures,
      c.as_str-4.ensures,
      c.as_str-5.ensures,
      c.as_str-6.ensures,
      c.as_str-7.ensures,
      c.as_str-8.ensures,
      c.as_str-9.ensures,
      c.as_str-10.ensures,
      c.as_str-11.ensures,
      c.as_str-12.ensures,
      c.as_str-13.ensures,
      c.as_str-14.ensures,
      c.as_str-15.ensures,
      c.as_str-16.ensures,
    ) refl
