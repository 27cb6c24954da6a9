-- Of contents that are values.
use Rattle.store_tables.specs.Contents.{Contents, AreValues, ShowsValues}

pub values_of : (c : Contents) → AreValues c → ShowsValues c
unfolding AreValues
values_of c v = v

pub are_values : (c : Contents) → ShowsValues c → AreValues c
unfolding AreValues
are_values c v = v
