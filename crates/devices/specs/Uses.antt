-- Definition. A device, before a call and after it.

pub record Use (View : Type 0) : Type 0 where
  pub before : View
  pub after : View

abbrev pub between : {View : Type 0} → View → View → Use View
between before after = record { before = before; after = after }

abbrev pub use_of : {Device View : Type 0} → (Device → View) → Device → Device → Use View
use_of view old new = between (view old) (view new)
